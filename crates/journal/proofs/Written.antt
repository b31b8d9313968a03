-- Laws of writing: a text after a text is the two texts as one, so a line is written piece by piece. Assumes nothing.
use Rattle.std.proofs.Common.{◌≡◌, sym, ap, subst, ◌∙◌, List, [], ◌∷◌, ◌++◌, append_assoc, ℕ, ◌+◌, ◌-◌, ◌/◌, ◌%◌, ◌<◌, ◌≤◌, add-zero, add_assoc, add-one, arith, length, take, drop, set, length-append, take-append-drop, length-take-le, take_at, drop-drop}
use borrow.Rule.Slice.PartMut.{put_mid}
use Rattle.std.proofs.Math.Seq.{drop-append-add, set_split}
use Rattle.rules.specs.Text.{decimal}
use Rattle.journal.specs.Writing.{written_at, Wrote}
use Rattle.journal.proofs.Decimal.{decimal_digit, decimal_tenth}

beyond : (p d : List ℕ) (n m : ℕ) → length p ≡ n → drop (n + m) (p ++ d) ≡ drop m d
beyond p d n m e = rw (← e) (drop-append-add p d m)

pub written_byte : (out : List ℕ) (at b : ℕ) → at < length out → set out at b ≡ written_at out at (b ∷ [])
unfolding written_at
written_byte out at b h = set_split out at b h ∙ ap (λ (k : ℕ). take at out ++ (b ∷ drop k out)) (sym (add-one at))

module _ (out : List ℕ) (at : ℕ) where
  pub length-written_lem : (text : List ℕ) → at + length text ≤ length out → length (written_at out at text) ≡ length out
  unfolding written_at
  length-written_lem text h =
      let n = length-take-le at out (omega arith) in
      let m = ap length (take-append-drop (at + length text) out) in
      let k = length-append (take (at + length text) out) (drop (at + length text) out) in
      let t = length-take-le (at + length text) out h in
      simp length-append (omega arith)

  pub written_none : written_at out at [] ≡ out
  unfolding written_at
  written_none = rw (add-zero at) (take-append-drop at out)

  pub written_then : (a b : List ℕ) → at ≤ length out → written_at (written_at out at a) (at + length a) b ≡ written_at out at (a ++ b)
  unfolding written_at
  written_then a b h =
      let n : length (take at out ++ a) ≡ at + length a = length-append (take at out) a ∙ ap (λ (k : ℕ). k + length a) (length-take-le at out h) in
      let d : List ℕ = drop (at + length a) out in
      let front : take (at + length a) (take at out ++ (a ++ d)) ≡ take at out ++ a =
      rw (← append_assoc (take at out) a d) (take_at (take at out ++ a) d (at + length a) n) in
      let back : drop (at + length a + length b) (take at out ++ (a ++ d)) ≡ drop (at + length (a ++ b)) out =
      rw (← append_assoc (take at out) a d)
      (beyond (take at out ++ a) d (at + length a) (length b) n ∙ drop-drop (length b) (at + length a) out
      ∙ ap (λ (k : ℕ). drop k out) (add_assoc at (length a) (length b) ∙ ap (λ (k : ℕ). at + k) (sym (length-append a b)))) in
      rw (front, back) (append_assoc (take at out) a (b ++ drop (at + length (a ++ b)) out) ∙ ap (λ (l : List ℕ). take at out ++ l) (sym (append_assoc a b (drop (at + length (a ++ b)) out))))

  -- a word in the place of as many bytes
  pub word_written : (word : List ℕ) {copied : List ℕ} → copied ≡ word → put_mid at (at + length word - at) out copied ≡ written_at out at word
  unfolding written_at
  word_written word e = let n : at + length word - at ≡ length word = omega arith in rw (e, n) (ap (λ l. take at out ++ (word ++ l)) (drop-drop (length word) at out))

-- the same text under another name
pub retold : {out out' a b : List ℕ} {at end : ℕ} → a ≡ b → Wrote out at a out' end → Wrote out at b out' end
retold {out} {out'} {a} {b} {at} {end} e w = subst (λ (l : List ℕ). Wrote out at l out' end) e w

-- a text, and a text after it
pub wrote_then : {out mid out' a b : List ℕ} {at place end : ℕ} → at ≤ length out → Wrote out at a mid place → Wrote mid place b out' end → Wrote out at (a ++ b) out' end
wrote_then {out} {mid} {out'} {a} {b} {at} {place} {end} h v w =
    record {
      place = w.place ∙ ap (λ (k : ℕ). k + length b) v.place ∙ add_assoc at (length a) (length b) ∙ ap (λ (k : ℕ). at + k) (sym (length-append a b));
      bytes =
          w.bytes ∙ ap (λ (k : ℕ). written_at mid k b) v.place ∙ ap (λ (l : List ℕ). written_at l (at + length a) b) v.bytes
          ∙ written_then out at a b h;
    }

-- a number below ten, or the last digit of a number
pub wrote_digit : (out : List ℕ) (at n b : ℕ) (out' : List ℕ) (end : ℕ) → n < 10 → b ≡ 48 + n → Wrote out at (b ∷ []) out' end → Wrote out at (decimal n) out' end
wrote_digit out at n b out' end h e w = retold (ap (λ (x : ℕ). x ∷ []) e ∙ sym (decimal_digit n h)) w

pub wrote_tenth : (out : List ℕ) (at n b : ℕ) (mid out' : List ℕ) (place end : ℕ) → 10 ≤ n → at ≤ length out → Wrote out at (decimal (n / 10)) mid place → b ≡ 48 + n % 10 → Wrote mid place (b ∷ []) out' end → Wrote out at (decimal n) out' end
wrote_tenth out at n b mid out' place end h l v e w =
    retold (ap (λ (x : ℕ). decimal (n / 10) ++ (x ∷ [])) e ∙ sym (decimal_tenth n h)) (wrote_then l v w)
