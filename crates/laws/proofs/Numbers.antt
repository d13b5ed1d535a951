-- No two cases of an answer have the same numbers: each answer is found again from them.
use mathlib.Core.Path.{◌≡◌, refl, sym, ap, ap₂, ◌∙◌}
use mathlib.Core.List.{[], ◌∷◌}
use Prim.Native.Nat.{ℕ}
use lib.ListN.{get_or}
use Rattle.std.specs.Prelude.{Ok, Err}
use Rattle.model.specs.Answers.{stop_number, stop_detail, refusal_number, verdict_numbers, RunNumbers, run_numbers, ImageNumbers, image_numbers, Verdict, RunAnswer, ImageAnswer}
use Rattle.model.specs.declared.Stop.{Stop}
use Rattle.model.specs.declared.Stop.TheVariants.{Limit, Trap, IllegalMemory, Misaligned, IllegalInstruction}
use Rattle.model.specs.declared.Refusal.{Refusal}
use Rattle.model.specs.declared.Refusal.TheVariants.{Bound, Unsound, Rights, TooMuch, Edition, Format, Room, Mnemonic, Operand, Overflow}

-- what is found again from its value is told by its value
told : {A B : Type 0} (f : A → B) (again : B → A) → ((x : A) → again (f x) ≡ x) → (x y : A) → f x ≡ f y → x ≡ y
told f again back x y e = sym (back x) ∙ ap again e ∙ back y

-- ---- the verdict and the refusal
verdict_of : ℕ → Verdict
verdict_of n =
    get_or (Ok tt ∷ Err Bound ∷ Err Unsound ∷ Err Rights ∷ Err TooMuch ∷ Err Edition ∷ Err Format ∷ Err Room
    ∷ Err Mnemonic ∷ Err Operand ∷ Err Overflow ∷ []) n (Ok tt)

verdict_again : (v : Verdict) → verdict_of (verdict_numbers v).refused ≡ v
unfolding verdict_of
verdict_again (Ok tt) = refl
verdict_again (Err Bound) = refl
verdict_again (Err Unsound) = refl
verdict_again (Err Rights) = refl
verdict_again (Err TooMuch) = refl
verdict_again (Err Edition) = refl
verdict_again (Err Format) = refl
verdict_again (Err Room) = refl
verdict_again (Err Mnemonic) = refl
verdict_again (Err Operand) = refl
verdict_again (Err Overflow) = refl

pub verdict_told : (x y : Verdict) → verdict_numbers x ≡ verdict_numbers y → x ≡ y
verdict_told = told verdict_numbers (λ n. verdict_of n.refused) verdict_again

pub refusal_told : (x y : Refusal) → refusal_number x ≡ refusal_number y → x ≡ y
refusal_told x y e = let q : Err x ≡ Err y = sym (verdict_again (Err x)) ∙ ap verdict_of e ∙ verdict_again (Err y) in cc

-- ---- the stop
stop_of : ℕ → ℕ → Stop
stop_of n detail = get_or (Limit ∷ Trap detail ∷ IllegalMemory detail ∷ Misaligned detail ∷ IllegalInstruction detail ∷ []) n Limit

stop_again : (s : Stop) → stop_of (stop_number s) (stop_detail s) ≡ s
unfolding stop_of
stop_again Limit = refl
stop_again (Trap n) = refl
stop_again (IllegalMemory va) = refl
stop_again (Misaligned va) = refl
stop_again (IllegalInstruction w) = refl

pub stop_told : (x y : Stop) → stop_number x ≡ stop_number y → stop_detail x ≡ stop_detail y → x ≡ y
stop_told x y e d = sym (stop_again x) ∙ ap₂ stop_of e d ∙ stop_again y

-- ---- the answers of a run and of the reader: taken or refused, as the verdict says
run_of : RunNumbers → Verdict → RunAnswer
run_of n (Ok tt) = Ok (record { stop = stop_of n.stop n.detail; finished = n.finished; loads = n.loads; copied = n.copied })
run_of n (Err r) = Err r

run_again : (a : RunAnswer) → run_of (run_numbers a) (verdict_of (run_numbers a).verdict.refused) ≡ a
unfolding verdict_of run_of
run_again (Ok r) = ap (λ t. Ok (record { stop = t; finished = r.finished; loads = r.loads; copied = r.copied })) (stop_again r.stop)
run_again (Err r) = ap (run_of (run_numbers (Err r))) (verdict_again (Err r))

pub run_told : (x y : RunAnswer) → run_numbers x ≡ run_numbers y → x ≡ y
run_told = told run_numbers (λ n. run_of n (verdict_of n.verdict.refused)) run_again

image_of : ImageNumbers → Verdict → ImageAnswer
image_of n (Ok tt) = Ok (record { ptl = n.ptl; start = n.start; frames = n.frames })
image_of n (Err r) = Err r

image_again : (a : ImageAnswer) → image_of (image_numbers a) (verdict_of (image_numbers a).verdict.refused) ≡ a
unfolding verdict_of image_of
image_again (Ok w) = refl
image_again (Err r) = ap (image_of (image_numbers (Err r))) (verdict_again (Err r))

pub image_told : (x y : ImageAnswer) → image_numbers x ≡ image_numbers y → x ≡ y
image_told = told image_numbers (λ n. image_of n (verdict_of n.verdict.refused)) image_again
