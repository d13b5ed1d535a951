-- `write`: the lines of the words so far stand in the buffer.
use mathlib.Core.Path.{ap}
use native.Mathlib.Omega.{arith}
use lib.Seq.{take_all}
use Rattle.text.proofs.Appending.{nothing, joined, same, length_appended}
use Rattle.notation.specs.Listing.{listing}
use Rattle.lister.specs.Words.{numbers}
use Rattle.lister.proofs.Listings.{words_length, stands, no_lines, line_more, line_room}
use borrow.Author.Rules.{rules}
use Rattle.lister.proofs.write.Goals as goal

pub loop-bytes-init : goal.loop-bytes-init
loop-bytes-init c = same (nothing c.args.out.now 0 (omega arith)) no_lines

pub put_line-to-requires : goal.put_line-to-requires
put_line-to-requires c =
    let v = c.loop-bytes in
    let s = stands c.args.words.now v.bytes-index c.from_le_bytes.result _ (search rules) c.from_le_bytes.ensures in
    omega (arith, line_room s, v.invariant.place, length_appended v.invariant, c.requires)

pub loop-bytes-preserved : goal.loop-bytes-preserved
loop-bytes-preserved c =
    let word = c.from_le_bytes in
    let v = c.loop-bytes in
    let s = stands c.args.words.now v.bytes-index word.result _ (search rules) word.ensures in
    same (joined v.invariant c.put_line-to.ensures) (line_more s)

pub shape_of-out : goal.shape_of-out
shape_of-out c = length_appended c.loop-bytes.invariant

pub returns : goal.returns
returns c =
    let words = c.args.words.now in
    let v = c.loop-bytes in
    same v.invariant (ap listing (take_all v.bytes-index (numbers words) (omega (arith, words_length words, c.loop-bytes-test.false))))
