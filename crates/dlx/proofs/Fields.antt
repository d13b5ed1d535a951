-- The register that a plan writes is one of GPR 0 to 31.
use Rattle.std.proofs.Common.{◌≡◌, ℕ, ◌%◌, ◌<◌, Bool, true, false, ltb, List, refl, ap, ◌∙◌, mod-lt, arith, ltb-true, lt-ltb}
use Rattle.std.specs.Prelude.{if◌then◌else◌}
use Rattle.model.specs.Instruction.{register, immediate, plan}
use Rattle.model.specs.declared.Plan.{Plan}
use Rattle.dlx.specs.Registers.{register_of}

-- a test that makes no difference
if_same : (b c : Bool) → (if b then c else c) ≡ c
if_same true c = refl
if_same false c = refl

-- a plan writes one of the 32, as a test
abbrev named : Plan → Bool
named p = ltb (register_of p) 32

named_if : (b : Bool) (p q : Plan) → named (if b then p else q) ≡ (if b then named p else named q)
named_if true p q = refl
named_if false p q = refl

field_named : (n : ℕ) → ltb (n % 32) 32 ≡ true
field_named n = lt-ltb (n % 32) 32 (mod-lt n (omega arith))

register_named : (next w x y : ℕ) → named (register next w x y) ≡ true
unfolding register
register_named next w x y = simp (named_if, if_same, field_named)

immediate_named : (next w x y c : ℕ) → named (immediate next w x y c) ≡ true
unfolding immediate
immediate_named next w x y c = simp (named_if, if_same, field_named)

-- a plan that is the one of a word, as a caller of `decode::plan` has it
pub register_below : (gpr : List ℕ) (next w : ℕ) (p : Plan) → p ≡ plan gpr next w → register_of p < 32
unfolding plan
register_below gpr next w p e =
    ltb-true (register_of p) 32 (ap named e ∙ simp (named_if, if_same, register_named, immediate_named))
