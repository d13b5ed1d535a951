-- `frame`: a frame is free, or none is.
use mathlib.Core.Path.{sym}
use Rattle.laws.proofs.Seats.{frame_free, frame_full}
use borrow.Author.Rules.{rules}
use Rattle.book.proofs.frame.Goals as goal

pub returns-then-b-a : goal.returns-then-b-a
returns-then-b-a c = sym (frame_free _ c.args.b (search rules))

pub returns : goal.returns
returns c = sym (frame_full _ c.args.b (search rules))
