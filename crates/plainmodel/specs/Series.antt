-- A series of steps on the plain engine, by the steps of model/specs/Series: the state after each.
use Rattle.std.specs.Prelude.{List, [], ◌∷◌}
use Rattle.model.specs.Series.{Call, runs, reads, writes, views, replies, SeriesStep, calls, spares}
use Rattle.plainmodel.specs.State.{PlainState, plain_state}
use Rattle.plainmodel.specs.Calls.{run_call, write_call, reply_call}

-- what a call leaves
unfoldable pub after : PlainState → Call → PlainState
after p (runs n) = (run_call p n).state
after p (reads va n) = p
after p (writes va from) = plain_state p.plain (write_call p va from).bytes p.rights
after p (views x) = p
after p (replies i v) = plain_state (reply_call p.plain i v).plain p.bytes p.rights

-- there is no table here, and so no spare bits for the host to change
unfoldable pub after_step : PlainState → SeriesStep → PlainState
after_step p (calls c) = after p c
after_step p (spares x n) = p

unfoldable pub after_all : PlainState → List SeriesStep → PlainState
after_all p [] = p
after_all p (s ∷ ss) = after_all (after_step p s) ss
