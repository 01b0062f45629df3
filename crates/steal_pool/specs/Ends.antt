-- The two ends of a deque, before any call. This project's own form.
use Rattle.std.specs.Prelude.{◌≡◌, ℕ, ◌≤◌, true, []}
use Rattle.std.specs.declared.alloc.Global.{Global}
use Rattle.crossbeam_deque.specs.Handles.{worker_deque, stealer_deque, stealer_flavor, worker_flavor, worker_view, worker_capacity, worker_index}
use Rattle.crossbeam_deque.specs.declared.handles.Worker.{Worker}
use Rattle.crossbeam_deque.specs.declared.handles.Stealer.{Stealer}
use Rattle.steal_pool.specs.Line.{Log, log}
use Rattle.steal_pool.specs.Seats.{DequeId}
use Rattle.steal_pool.specs.declared.rule.InLine.{InLine}

abbrev pub Own : Type 0
Own = Worker ℕ Global Log InLine

abbrev pub Victim : Type 0
Victim = Stealer ℕ Global Log InLine

-- a worker's end of a deque with that much room, first in, first out, of which nothing is known but that it is empty
pub record IsNew (capacity : ℕ) (own : Own) : Type 0 where
  pub flavor : worker_flavor own ≡ 0
  pub log : worker_view own ≡ log true [] []
  pub index : worker_index own ≡ 0
  pub room : capacity ≤ worker_capacity own

abbrev pub own_id : Own → DequeId
own_id own = (worker_deque own).0

abbrev pub victim_id : Victim → DequeId
victim_id victim = (stealer_deque victim).0

abbrev pub IsFirstInFirstOut : Victim → Type 0
IsFirstInFirstOut victim = stealer_flavor victim ≡ 0

abbrev pub IsOfFirstInFirstOut : Own → Type 0
IsOfFirstInFirstOut own = worker_flavor own ≡ 0
