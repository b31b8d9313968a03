-- The calls made one after the other: what is done so far, with the reference run of the calls left, is the whole. Assumes nothing.
use Rattle.std.proofs.Common.{◌≡◌, refl, sym, ap, ap₂, ◌∙◌, List, [], ◌∷◌, ◌++◌, append_assoc, append-nil, ℕ, suc, ◌+◌, ◌*◌, ◌/◌, ◌≤◌, ◌<◌, arith, length, take, drop, get_or, length-drop, length-append, take-append-drop, drop-cons, drop-drop, take_at, drop_at, length-take-le}
use Rattle.rules.specs.Signed.{joined}
use Rattle.rules.specs.Call.{Call, call_outcome}
use Rattle.rules.specs.ReferenceRun.{words_from, answers_from}
use Rattle.property3.specs.declared.EncodedAnswer.{EncodedAnswer}
use Rattle.rules.specs.declared.Terms.{Terms}
use Rattle.property3.specs.Encoding.{decoded_call, decoded_calls, encoded_answers, answer_room, encoded_words, CallMade}
use Rattle.property3.specs.CallsRun.{CallsMade}

-- fewer than five words hold no call
no_call : (ws : List ℕ) → length ws < 5 → decoded_calls ws ≡ []
unfolding decoded_calls
no_call [] h = refl
no_call (k ∷ []) h = refl
no_call (k ∷ x ∷ []) h = refl
no_call (k ∷ x ∷ y ∷ []) h = refl
no_call (k ∷ x ∷ y ∷ z ∷ []) h = refl
no_call (k ∷ x ∷ y ∷ z ∷ w ∷ ws) h = absurd (omega arith)

calls_end : (ws : List ℕ) (i : ℕ) → length ws / 5 ≤ i → decoded_calls (drop (5 * i) ws) ≡ []
calls_end ws i h = no_call (drop (5 * i) ws) (rw (length-drop (5 * i) ws) (omega arith))

-- the call whose words start at a place
abbrev pub call_at : List ℕ → ℕ → Call
call_at ws at = decoded_call (get_or ws at 0) (get_or ws (at + 1) 0) (joined (get_or ws (at + 2) 0) (get_or ws (at + 3) 0)) (get_or ws (at + 4) 0)

calls_at : (ws : List ℕ) (i : ℕ) → i < length ws / 5 → decoded_calls (drop (5 * i) ws) ≡ call_at ws (5 * i) ∷ decoded_calls (drop (5 * (i + 1)) ws)
unfolding decoded_calls
calls_at ws i h =
    let word : (k m : ℕ) → suc k ≡ m → k < length ws → drop k ws ≡ get_or ws k 0 ∷ drop m ws =
    λ k m e b. drop-cons ws k 0 b ∙ ap (λ (n : ℕ). get_or ws k 0 ∷ drop n ws) e in
    ap decoded_calls
    (word (5 * i) (5 * i + 1) (omega arith) (omega arith)
    ∙ ap (λ (l : List ℕ). get_or ws (5 * i) 0 ∷ l)
    (word (5 * i + 1) (5 * i + 2) (omega arith) (omega arith)
    ∙ ap (λ (l : List ℕ). get_or ws (5 * i + 1) 0 ∷ l)
    (word (5 * i + 2) (5 * i + 3) (omega arith) (omega arith)
    ∙ ap (λ (l : List ℕ). get_or ws (5 * i + 2) 0 ∷ l)
    (word (5 * i + 3) (5 * i + 4) (omega arith) (omega arith)
    ∙ ap (λ (l : List ℕ). get_or ws (5 * i + 3) 0 ∷ l)
    (word (5 * i + 4) (5 * (i + 1)) (omega arith) (omega arith))))))

module _ (terms : Terms) (bs : List ℕ) where
  abbrev words : List ℕ → List Call → List ℕ
  words = words_from terms bs

  abbrev answers : List ℕ → List Call → List ℕ
  answers ws cs = encoded_answers (answers_from terms bs ws cs)

  -- before call number i: from the words ws and the answers out, the calls before it led to ws₁ and out₁
  pub record Underway (ws calls out ws₁ out₁ : List ℕ) (i : ℕ) : Type 0 where
    pub left : words ws₁ (decoded_calls (drop (5 * i) calls)) ≡ words ws (decoded_calls calls)
    pub written : take (3 * i) out₁ ++ answers ws₁ (decoded_calls (drop (5 * i) calls)) ≡ answers ws (decoded_calls calls)
    pub beyond : drop (3 * i) out₁ ≡ drop (3 * i) out
    pub within : i ≤ length calls / 5

  pub underway_start : (ws calls out : List ℕ) → Underway ws calls out ws out 0
  underway_start ws calls out = record { left = refl; written = refl; beyond = refl; within = omega arith }

  pub underway_next : (ws calls out ws₁ out₁ : List ℕ) (i : ℕ) → i < length calls / 5 → answer_room calls ≤ length out₁
      → Underway ws calls out ws₁ out₁ i
      → (told : EncodedAnswer) (ws₂ out₂ : List ℕ)
      → CallMade (call_outcome terms bs ws₁ (call_at calls (5 * i))) told ws₂
      → out₂ ≡ take (3 * i) out₁ ++ (encoded_words told ++ drop (3 * i + 3) out₁)
      → Underway ws calls out ws₂ out₂ (i + 1)
  unfolding answer_room words_from answers_from encoded_answers encoded_words
  underway_next ws calls out ws₁ out₁ i l room u told ws₂ out₂ m e =
      let d : Call = call_at calls (5 * i) in
      let rest : List Call = decoded_calls (drop (5 * (i + 1)) calls) in
      let q : decoded_calls (drop (5 * i) calls) ≡ d ∷ rest = calls_at calls i l in
      let before : List ℕ = take (3 * i) out₁ in
      let s : 3 * (i + 1) ≡ 3 * i + 3 = omega arith in
      let n : length before ≡ 3 * i = length-take-le (3 * i) out₁ (omega arith) in
      let n3 : length (before ++ encoded_words told) ≡ 3 * (i + 1) = length-append before (encoded_words told) ∙ omega (arith, n) in
      let e3 : out₂ ≡ (before ++ encoded_words told) ++ drop (3 * i + 3) out₁ = e ∙ sym (append_assoc before (encoded_words told) (drop (3 * i + 3) out₁)) in
      let t3 : take (3 * (i + 1)) out₂ ≡ before ++ encoded_words told =
      ap (take (3 * (i + 1))) e3 ∙ take_at (before ++ encoded_words told) (drop (3 * i + 3) out₁) (3 * (i + 1)) n3 in
      let d3 : drop (3 * (i + 1)) out₂ ≡ drop (3 * i + 3) out₁ =
      ap (drop (3 * (i + 1))) e3 ∙ drop_at (before ++ encoded_words told) (drop (3 * i + 3) out₁) (3 * (i + 1)) n3 in
      record {
        left = ap (λ (v : List ℕ). words v rest) m.left ∙ sym (ap (words ws₁) q) ∙ u.left;
        written = ap₂ (λ (x y : List ℕ). x ++ answers y rest) t3 m.left
            ∙ append_assoc before (encoded_words told) (answers (call_outcome terms bs ws₁ d).words rest)
            ∙ ap (λ (x : List ℕ). before ++ (x ++ answers (call_outcome terms bs ws₁ d).words rest)) m.answered
            ∙ sym (ap (λ (cs : List Call). before ++ answers ws₁ cs) q)
            ∙ u.written;
        beyond = d3 ∙ sym (drop-drop 3 (3 * i) out₁) ∙ ap (drop 3) u.beyond ∙ drop-drop 3 (3 * i) out ∙ ap (λ (k : ℕ). drop k out) (sym s);
        within = omega arith;
      }

  pub underway_done : (ws calls out ws₁ out₁ : List ℕ) (i : ℕ) → length calls / 5 ≤ i
      → Underway ws calls out ws₁ out₁ i → CallsMade terms bs ws calls out ws₁ out₁
  unfolding answer_room words_from answers_from encoded_answers
  underway_done ws calls out ws₁ out₁ i h u =
      let q : decoded_calls (drop (5 * i) calls) ≡ [] = calls_end calls i h in
      let k : 3 * i ≡ answer_room calls = omega (arith, u.within) in
      record {
        left = sym (ap (words ws₁) q) ∙ u.left;
        written = sym (take-append-drop (3 * i) out₁)
            ∙ ap₂ (λ (x y : List ℕ). x ++ y)
            (sym (append-nil (take (3 * i) out₁)) ∙ sym (ap (λ (cs : List Call). take (3 * i) out₁ ++ answers ws₁ cs) q) ∙ u.written)
            (u.beyond ∙ ap (λ (x : ℕ). drop x out) k);
      }
