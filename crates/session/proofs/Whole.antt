-- What the beginning and the stretches of a script say, one after another, is all that is said to it (`whole_text`).
use Rattle.talk.proofs.Whole.{whole_talk}
use Rattle.session.specs.Desk.{spoken}
use Rattle.session.specs.Series.{begun_with, series_talk, WholeText}

pub whole_text : WholeText
unfolding series_talk
whole_text file pages script ts last g h = whole_talk spoken (begun_with file pages) script ts last g h
