-- `fits`: the lines that are left fit in what is left exactly where all of them fit in the room.
use mathlib.Core.Path.{sym, ◌∙◌}
use native.Mathlib.Omega.{arith}
use lib.ListN.{length}
use borrow.Author.Tests.{le-leb}
use Rattle.notation.specs.Listing.{listing}
use Rattle.lister.specs.Words.{numbers}
use Rattle.text.proofs.Appending.{length_appended}
use Rattle.lister.proofs.Listings.{words_length, stands, all_fit, line_fits}
use Rattle.grammar.proofs.Short.{listing_short}
use borrow.Author.Rules.{rules}
use Rattle.lister.proofs.fits.Goals as goal

pub returns-then-words-room : goal.returns-then-words-room
returns-then-words-room c =
    let ws = numbers c.args.words.now in
    sym (le-leb (length (listing ws)) c.args.room (omega (arith, listing_short ws, words_length c.args.words.now, c.if-words-room.true)))

pub loop-bytes-preserved : goal.loop-bytes-preserved
loop-bytes-preserved c =
    let put = c.put-n in
    let word = c.from_le_bytes in
    let v = c.loop-bytes in
    let s = stands c.args.words.now v.bytes-index word.result _ (search rules) word.ensures in (
      length_appended put.ensures ∙ v.invariant.0,
      line_fits s put.result v.left put.ensures.place (search rules) ∙ v.invariant.1,
    )

pub returns : goal.returns
returns c =
    let words = c.args.words.now in
    let v = c.loop-bytes in
    all_fit (numbers words) v.bytes-index v.left (omega (arith, words_length words, c.loop-bytes-test.false)) ∙ v.invariant.1
