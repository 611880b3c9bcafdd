-- One evaluation after another.
use Rattle.std.proofs.Common.{◌≡◌, ℕ, List, refl}
use Rattle.value_core.specs.declared.value.Value.{Value}
use Rattle.serial_model.specs.declared.answer.Answer.{Answer}
use Rattle.serial_model.specs.Eval.{Out, Got, Stop, Next, then_go}

pub then_go-assoc : (out : Out) (next last : Next) → then_go (then_go out next) last ≡ then_go out (λ v fuel answers. then_go (next v fuel answers) last)
then_go-assoc (Got v fuel answers) next last = refl
then_go-assoc (Stop halt) next last = refl

-- what is done with the value may be put in another way
pub then_go-same : (out : Out) (next other : Next) → ((v : Value) (fuel : ℕ) (answers : List Answer) → next v fuel answers ≡ other v fuel answers) → then_go out next ≡ then_go out other
then_go-same (Got v fuel answers) next other same = same v fuel answers
then_go-same (Stop halt) next other same = refl

-- with nothing done an evaluation stays as it is
pub then_go-nothing : (out : Out) → then_go out (λ v fuel answers. Got v fuel answers) ≡ out
then_go-nothing (Got v fuel answers) = refl
then_go-nothing (Stop halt) = refl
