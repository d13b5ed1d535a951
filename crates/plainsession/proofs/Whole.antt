-- What the beginning and the stretches of a script say, one after another, is all that is said to it (`whole_text`).
use Rattle.talk.proofs.Whole.{whole_talk}
use Rattle.plainsession.specs.Desk.{spoken}
use Rattle.plainsession.specs.Series.{begun_with, plain_talk, WholeText}

pub whole_text : WholeText
unfolding plain_talk
whole_text file script ts last g h = whole_talk spoken (begun_with file) script ts last g h
