-- Places of tracks: each starts where the one before it ends, and all are small, below 2^23, whatever limit a word can count. Assumes nothing.
use Rattle.std.proofs.Common.{◌≡◌, ℕ, ◌+◌, ◌*◌, ◌<◌, ◌≤◌, mul-le-mul, add-one, arith}
use Rattle.rules.specs.declared.Terms.{Terms}
use Rattle.rules.specs.Layout.{leading_words, head_words, entry_width, track_width, track_place}
use Rattle.rules.proofs.TrackWords.{place_more}

-- the words of so many tracks
pub tracks_small : {width t : ℕ} → width < 131074 → t ≤ 32 → width * t < 4194337
tracks_small {width} {t} h k = let w : width ≤ 131073 = omega arith in let m : width * t ≤ 131073 * 32 = mul-le-mul w k in omega arith

pub place_small : (terms : Terms) (t : ℕ) → terms.limit < 65536 → t ≤ 32 → track_place terms t < 4194341
unfolding track_place track_width head_words entry_width leading_words
place_small terms t h k = let m = tracks_small {width = 3 + 2 * terms.limit} {t = t} (omega arith) k in omega arith

-- a track's words start where those of the one before it end
pub place_next : (terms : Terms) (t : ℕ) → track_place terms (t + 1) ≡ track_place terms t + track_width terms
place_next terms t = rw add-one (place_more terms t)
