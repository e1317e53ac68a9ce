-- What a source and a sink in memory stand for, and what a call does to them. Calls are numbered from 0.
use Rattle.std.specs.Prelude.{◌<◌, ◌≤◌, ◌⊎◌, ℕ, ◌-◌, min, List, [], ◌++◌, length, take, drop, Result, Ok, Err, Contains}
use Rattle.pp_outside.specs.declared.failed.Failed.{Failed}
use Rattle.pp_outside.specs.Faults.{one_more}

-- a source in memory
pub record SourceState : Type 0 where
  -- the bytes that are left
  pub left : List ℕ
  -- how many bytes a read gives at most
  pub most : ℕ
  -- the numbers of the calls that fail
  pub fails : List ℕ
  -- the number of the next call
  pub call : ℕ
  -- how many reads have failed
  pub faults : ℕ

-- a source before its first call
abbrev pub fresh_source : List ℕ → ℕ → List ℕ → SourceState
fresh_source bytes most fails = record { left = bytes; most = most; fails = fails; call = 0; faults = 0 }

-- how many bytes a read into a buffer of this length gives
abbrev pub given_count : SourceState → ℕ → ℕ
given_count s room = min s.most (min room (length s.left))

-- the source after a read: what it gave is gone, and the call and its failure are counted
abbrev pub after_read : SourceState → Result ℕ Failed → SourceState
after_read s (Ok n) = record s { left = drop n s.left; call = one_more s.call }
after_read s (Err _) = record s { call = one_more s.call; faults = one_more s.faults }

-- a sink in memory
pub record SinkState : Type 0 where
  -- the bytes that were written
  pub written : List ℕ
  -- how many bytes it takes in all
  pub room : ℕ
  -- how many bytes a write takes at most
  pub most : ℕ
  -- the numbers of the calls that fail
  pub fails : List ℕ
  -- the number of the next call
  pub call : ℕ
  -- how many writes have failed
  pub faults : ℕ

-- a sink before its first call
abbrev pub fresh_sink : ℕ → ℕ → List ℕ → SinkState
fresh_sink room most fails = record { written = []; room = room; most = most; fails = fails; call = 0; faults = 0 }

-- the next write fails: its call is listed, or there is something to write and no room left
abbrev pub WriteFails : SinkState → List ℕ → Type 0
WriteFails s part = Contains s.fails s.call ⊎ ((0 < length part) × (s.room ≤ length s.written))

-- how many bytes a write of this part takes
abbrev pub taken_count : SinkState → List ℕ → ℕ
taken_count s part = min s.most (min (length part) (s.room - length s.written))

-- the sink after a write: what it took is added, and the call and its failure are counted
abbrev pub after_write : SinkState → List ℕ → Result ℕ Failed → SinkState
after_write s part (Ok n) = record s { written = s.written ++ take n part; call = one_more s.call }
after_write s part (Err _) = record s { call = one_more s.call; faults = one_more s.faults }
