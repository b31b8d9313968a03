-- Laws of the fields and lines as texts: what they are piece by piece, and how long they are. Assumes nothing.
use Rattle.std.proofs.Common.{◌≡◌, inl, inr, List, [], ◌∷◌, ◌++◌, append_assoc, ℕ, ◌+◌, ◌<◌, ◌≤◌, ◌^◌, arith, eqb, length, length-append, eq-eqb, ne_eqb, eqb-true}
use borrow.Author.Tests.{eqb-false}
use Rattle.rules.specs.Text.{ascii, decimal, fields_text, line}
use Rattle.rules.specs.Plan.{no_state}
use Rattle.rules.specs.Transcript.{deviation_text}
use Rattle.rules.proofs.Tests.{look}
use Rattle.journal.specs.Writing.{Wrote, line_room, Lined}
use Rattle.journal.proofs.Decimal.{digits_most}

pub deviation_none : (d : ℕ) → d ≡ 65535 → deviation_text d ≡ 45 ∷ []
unfolding deviation_text no_state ascii
deviation_none d e = rw (eq-eqb d 65535 e)

pub deviation_some : (d : ℕ) → (d ≡ 65535 → ⊥) → deviation_text d ≡ decimal d
unfolding deviation_text no_state
deviation_some d n = rw (ne_eqb d 65535 n)

-- a line, from its pieces
module _ (name : List ℕ) where
  pub line_one : (f : List ℕ) → (name ++ (ascii " " ++ f)) ++ ascii "\n" ≡ line name (f ∷ [])
  unfolding line fields_text ascii
  line_one f = simp append_assoc

  pub line_two : (f g : List ℕ) → ((name ++ (ascii " " ++ f)) ++ (ascii " " ++ g)) ++ ascii "\n" ≡ line name (f ∷ g ∷ [])
  unfolding line fields_text ascii
  line_two f g = simp append_assoc

  pub line_three : (f g h : List ℕ)
      → (((name ++ (ascii " " ++ f)) ++ (ascii " " ++ g)) ++ (ascii " " ++ h)) ++ ascii "\n" ≡ line name (f ∷ g ∷ h ∷ [])
  unfolding line fields_text ascii
  line_three f g h = simp append_assoc

  pub length-head_lem : (f : List ℕ) → length (name ++ (ascii " " ++ f)) ≡ length name + 1 + length f
  unfolding ascii
  length-head_lem f = rw length-append (omega arith)

pub length-one_lem : (name f : List ℕ) → length (line name (f ∷ [])) ≡ length name + 2 + length f
unfolding line fields_text ascii
length-one_lem name f = simp length-append (omega arith)

pub length_two : (name f g : List ℕ) → length (line name (f ∷ g ∷ [])) ≡ length name + 3 + length f + length g
unfolding line fields_text ascii
length_two name f g = simp length-append (omega arith)

pub length_three : (name f g h : List ℕ) → length (line name (f ∷ g ∷ h ∷ [])) ≡ length name + 4 + length f + length g + length h
unfolding line fields_text ascii
length_three name f g h = simp length-append (omega arith)

pub length-field_lem : (f : List ℕ) → length (ascii " " ++ f) ≡ 1 + length f
unfolding ascii
length-field_lem f = omega arith

-- the digits of a number that fits 8, 16 or 32 bits
pub digits_byte : (n : ℕ) → n < 2 ^ 8 → length (decimal n) ≤ 3
digits_byte n h = digits_most 2 n (omega arith)

pub digits_word : (n : ℕ) → n < 2 ^ 16 → length (decimal n) ≤ 5
digits_word n h = digits_most 4 n (omega arith)

pub digits_long : (n : ℕ) → n < 2 ^ 32 → length (decimal n) ≤ 10
digits_long n h = digits_most 9 n (omega arith)

pub deviation_most : (d : ℕ) → d < 2 ^ 16 → length (deviation_text d) ≤ 5
deviation_most d h =
    elim (look (eqb d 65535)) [
      | inl e ↦ rw (deviation_none d (eqb-true d 65535 e)) (omega arith)
      | inr e ↦ rw (deviation_some d (eqb-false d 65535 e)) (digits_word d h)
    ]

-- a written line that is short enough
module _ {out out' : List ℕ} {at end : ℕ} (name : List ℕ) where
  pub lined_one : (f : List ℕ) → Wrote out at (line name (f ∷ [])) out' end → length name + 2 + length f ≤ line_room → Lined out at (line name (f ∷ [])) out' end
  lined_one f w h = let n = length-one_lem name f in let p = w.place in record { wrote = w; short = omega arith }

  pub lined_two : (f g : List ℕ) → Wrote out at (line name (f ∷ g ∷ [])) out' end → length name + 3 + length f + length g ≤ line_room
      → Lined out at (line name (f ∷ g ∷ [])) out' end
  lined_two f g w h = let n = length_two name f g in let p = w.place in record { wrote = w; short = omega arith }

  pub lined_three : (f g h : List ℕ) → Wrote out at (line name (f ∷ g ∷ h ∷ [])) out' end
      → length name + 4 + length f + length g + length h ≤ line_room → Lined out at (line name (f ∷ g ∷ h ∷ [])) out' end
  lined_three f g h w l = let n = length_three name f g h in let p = w.place in record { wrote = w; short = omega arith }
