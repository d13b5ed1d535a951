-- `memory::put_entries`: the entries of the first x pages have come.
use Rattle.std.proofs.Common.{◌≡◌, ◌*◌, ◌++◌, length, take, drop}
use Rattle.model.specs.Image.{invalid_entries}
use Rattle.loading.proofs.memory.put_entries.Given as goal

abbrev pub invariant-loop-x : goal.invariant-loop-x
invariant-loop-x l =
    (length l.main ≡ length l.initial.main) × (l.main ≡ invalid_entries (take l.x l.rights) ++ drop (4 * l.x) l.initial.main)
