-- `memory::fill_main`: zeros, then the entries over them.
use Rattle.loading.proofs.Filled.{zeros_behind}
use Rattle.model.specs.Image.{invalid_entries}
use Rattle.std.proofs.Common.{◌*◌, ◌++◌, length, drop, ap, ◌∙◌}
use Rattle.loading.proofs.memory.fill_main.Goals as goal

pub returns : goal.returns
returns c =
    let r = c.args.rights.now in
    c.put_entries.ensures ∙ ap (λ m. invalid_entries r ++ drop (4 * length r) m) (c.fill.ensures.after (λ y h. h))
    ∙ zeros_behind r (length c.args.main.now)
