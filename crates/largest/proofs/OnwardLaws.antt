-- The walk's table, as the words that are kept of each state: reading one, and writing both or the first. Assumes nothing.
use Rattle.std.proofs.Common.{◌≡◌, refl, List, ℕ, get_or, set}
use Rattle.std.proofs.Math.ListN.{get_or-map}
use Rattle.std.proofs.Math.Seq.{map-set_same}
use Rattle.std.proofs.lemmas.List.{map-set}
use Rattle.rules.specs.declared.Counts.{Counts}
use Rattle.largest.specs.declared.explore.Onward.{Onward}
use Rattle.largest.specs.Table.{most_words, step_words, Exploring}

module _ (table : List Onward) (s : ℕ) where
  pub read_most : get_or (most_words table) s 0 ≡ (get_or table s (record { most = 0; step = 0 })).most
  read_most = get_or-map (λ (k : Onward). k.most) table s (record { most = 0; step = 0 })

  pub read_step : get_or (step_words table) s 0 ≡ (get_or table s (record { most = 0; step = 0 })).step
  read_step = get_or-map (λ (k : Onward). k.step) table s (record { most = 0; step = 0 })

  pub write_most : (r : Onward) → most_words (set table s r) ≡ set (most_words table) s r.most
  write_most r = map-set (λ (k : Onward). k.most) table s r

  pub write_step : (r : Onward) → step_words (set table s r) ≡ set (step_words table) s r.step
  write_step r = map-set (λ (k : Onward). k.step) table s r

  -- a state is entered: its step stays
  pub enter_words : (bs : List ℕ) (c : Counts) (head next : List ℕ) (m : ℕ) → Exploring bs c head next s (set (most_words table) s m) (step_words table)
      → Exploring bs c head next s (most_words (set table s (record { most = m; step = (get_or table s (record { most = 0; step = 0 })).step })))
      (step_words (set table s (record { most = m; step = (get_or table s (record { most = 0; step = 0 })).step })))
  enter_words bs c head next m h =
      let r : Onward = record { most = m; step = (get_or table s (record { most = 0; step = 0 })).step } in
      let e = map-set_same (λ (k : Onward). k.step) table s r (record { most = 0; step = 0 }) refl in
      rw (write_most r, e) h
