-- Bytes that are so many records of each kind and an end record, within the limits of refusal 6, which counts no windows and no grants. Assumes
-- nothing.
use Rattle.std.specs.Prelude.{◌≡◌, ◌+◌, ◌*◌, ◌≤◌, length}
use Rattle.rules.specs.Names.{Bytes}
use Rattle.rules.specs.declared.Counts.{Counts}

pub record Holds (bs : Bytes) (c : Counts) : Type 0 where
  pub tracks : c.tracks ≤ 32
  pub states : c.states ≤ 128
  pub transitions : c.transitions ≤ 256
  pub whole : length bs ≡ 6 * c.tracks + 10 * c.states + 14 * c.transitions + 14 * c.windows + 10 * c.grants + 4
