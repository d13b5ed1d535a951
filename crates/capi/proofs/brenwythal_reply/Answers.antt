-- `brenwythal_reply`: a record of another length, the register's word set, or a refusal.
use mathlib.Core.Path.{refl}
use native.Mathlib.Omega.{arith}
use Rattle.laws.proofs.Granted.{reply_leans}
use Rattle.capi.proofs.Calls.{reply_short, reply_set, reply_not}
use borrow.Author.Rules.{rules}
use Rattle.capi.proofs.brenwythal_reply.Goals as goal

pub returns-then-words-ne-RECORD : goal.returns-then-words-ne-RECORD
returns-then-words-ne-RECORD c = reply_short _ _ _ (search rules)

pub set_register-requires : goal.set_register-requires
set_register-requires c =
    (search rules, omega (arith, reply_leans _ _ c.in-Ok.ensures refl))

pub returns-in-Ok : goal.returns-in-Ok
returns-in-Ok c =
    let asked = c.in-Ok.ensures in
    reply_set _ _ _ (search rules) _ asked refl _ (omega (arith, reply_leans _ _ asked refl)) _ c.set_register.ensures

pub returns-in-Err : goal.returns-in-Err
returns-in-Err c =
    reply_not _ _ _ (search rules) _ c.in-Err.ensures _ refl _ c.refusal_number.ensures
