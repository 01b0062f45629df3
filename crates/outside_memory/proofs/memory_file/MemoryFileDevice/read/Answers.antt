use Rattle.std.proofs.Common.{ap, Some, refl, subst, ◌≡◌, ◌+◌, ◌++◌, ℕ, List, take, drop}
use Rattle.outside_memory.specs.Memory.{file_state}
use Rattle.outside.proofs.ReadingLemmas.{next-then-rest}
use Rattle.outside_memory.proofs.memory_file.MemoryFileDevice.read.Goals as goal

pub returns-clause-ok : goal.returns-clause-ok
returns-clause-ok c =
    let at = c.args.self.now.taken in
    let count = c.copy_front-count.result in
    let taken = take count c.copy_front-count.new.to in
    ap (λ left. record (file_state c.args.self.now) { left = Some left })
    (subst (λ (input : List ℕ). drop at input ≡ taken ++ drop (at + count) input) c.deref.ensures.value
    (next-then-rest c.deref.result.now _ taken at count refl c.copy_front-count.ensures.front))
