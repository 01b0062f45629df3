-- Which call of its kind a call is.
use Rattle.std.specs.Prelude.{◌≡◌, ℕ, List}
use Rattle.outside_memory.specs.declared.schedule.Call.{Call}
use Rattle.outside_memory.specs.declared.schedule.Call.TheVariants.{Open, Read, Write, Finish, Flush}
use Rattle.outside_memory.specs.declared.schedule.CallCounts.{CallCounts}
use Rattle.outside_memory.specs.declared.schedule.FailingCall.{FailingCall}
use Rattle.outside_memory.specs.declared.schedule.Schedule.{Schedule}
use Rattle.outside.specs.Prelude.{one_more}

-- how many calls of a kind were made
abbrev pub count_of : CallCounts → Call → ℕ
count_of made Open = made.opens
count_of made Read = made.reads
count_of made Write = made.writes
count_of made Finish = made.finishes
count_of made Flush = made.flushes

-- the counts with another one for a kind
abbrev pub with_count : CallCounts → Call → ℕ → CallCounts
with_count made Open count = record made { opens = count }
with_count made Read count = record made { reads = count }
with_count made Write count = record made { writes = count }
with_count made Finish count = record made { finishes = count }
with_count made Flush count = record made { flushes = count }

-- the counts after one more call of a kind
abbrev pub counted : CallCounts → Call → CallCounts
counted made call = with_count made call (one_more (count_of made call))

-- before any call was made
abbrev pub no_calls : CallCounts
no_calls = record { opens = 0; reads = 0; writes = 0; finishes = 0; flushes = 0 }

-- a schedule by which these calls fail, before any was made
pub record IsFresh (failing : List FailingCall) (schedule : Schedule) : Type 0 where
  pub calls : schedule.failing.items ≡ failing
  pub made : schedule.made ≡ no_calls
  pub faults : schedule.faults ≡ 0
