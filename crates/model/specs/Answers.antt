-- What the code's refusals and results say in the paper's terms.
-- Assumes nothing.
use Rattle.std.specs.Prelude.{ℕ, Result as Answer, Ok, Err}
use Rattle.model.specs.Refusals.{form, bounds, size, order, address, entry, steering_target, target_count, start, steering_count, no_plan, search_space, buffer, plan_form, bit_count, configuration, target, reset_length, clock_line}
use Rattle.model.specs.Result.{Result, ok, refused}
use Rattle.model.specs.declared.refusal.Kind.{Kind}
use Rattle.model.specs.declared.refusal.Kind.TheVariants.{Form, Bounds, Size, Order, Address, Entry, SteeringTarget, TargetCount, Start, SteeringCount, NoPlan, SearchSpace, Buffer, PlanForm, BitCount, Configuration, Target, ResetLength, ClockLine}
use Rattle.model.specs.declared.refusal.Refusal.{Refusal}

-- the number of each kind
abbrev pub number_of : Kind → ℕ
number_of Form = form
number_of Bounds = bounds
number_of Size = size
number_of Order = order
number_of Address = address
number_of Entry = entry
number_of SteeringTarget = steering_target
number_of TargetCount = target_count
number_of Start = start
number_of SteeringCount = steering_count
number_of NoPlan = no_plan
number_of SearchSpace = search_space
number_of Buffer = buffer
number_of PlanForm = plan_form
number_of BitCount = bit_count
number_of Configuration = configuration
number_of Target = target
number_of ResetLength = reset_length
number_of ClockLine = clock_line

-- a call's result, which f gives the meaning of, or its refusal's number and place
abbrev pub answer : {A B : Type 0} → (A → B) → Answer A Refusal → Result B
answer f (Ok a) = ok (f a)
answer f (Err r) = refused (number_of r.kind) r.place

-- a count, or a refusal's number and place
abbrev pub count_of : Answer ℕ Refusal → Result ℕ
count_of r = answer (λ n. n) r
