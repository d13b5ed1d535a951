-- `write`: the words of the lines before those that are left stand in the output.
use Rattle.assembler.proofs.Passes.{no_room, write_none, write_end, write_room, write_more}
use Rattle.assembler.proofs.write.Goals as goal

pub returns-then-out-lines : goal.returns-then-out-lines
returns-then-out-lines c =
    no_room c.args.text.now c.args.out.now c.requires c.if-out-lines.true

pub loop-line-init : goal.loop-line-init
loop-line-init c =
    write_none c.args.text.now c.args.out.now c.requires c.if-out-lines.false

pub put_word-requires : goal.put_word-requires
put_word-requires c = write_room c.loop-line.invariant _ _ c.in-Some.ensures.0

pub loop-line-preserved : goal.loop-line-preserved
loop-line-preserved c =
    rw (c.put_word.ensures, c.word.ensures) (write_more c.loop-line.invariant _ _ c.in-Some.ensures.0)

pub shape_of-out : goal.shape_of-out
shape_of-out c = c.loop-line.invariant.long

pub returns : goal.returns
returns c = write_end c.loop-line.invariant c.in_default.ensures
