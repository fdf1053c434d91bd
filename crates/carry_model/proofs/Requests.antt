-- Every promise of document 02's Change 3, and of Change 4 what it says of Change 3, with its proof.
-- Assumes nothing.
use Rattle.model.specs.Network.{Network}
use Rattle.model.specs.Plan.{Plan}
use Rattle.model.specs.Text.{bytes}
use Rattle.carry_model.specs.CarryDemands.{CarryBufferKept, CarryBufferWritten, CarryListed, CarryEarlier, CarryStatus}
use Rattle.carry_model.specs.Continued.{CarryMarks, UsedAsStart, StartAccepted, TargetsAccepted, JoinedPlans, PassInTurn, JoinedTexts}
use Rattle.carry_model.specs.CarryRows.{AllCarried, read_a, plan_read_a, open_a, carry_rows}
use Rattle.carry_model.proofs.Carried.{carried_as_marked}
use Rattle.carry_model.proofs.CarryCall.{carry_buffer_kept, carry_buffer_written, carry_listed, carry_earlier}
use Rattle.carry_model.proofs.JoinedPlans.{plans_joined}
use Rattle.carry_model.proofs.JoinedTexts.{texts_joined}
use Rattle.carry_model.proofs.NextAccepted.{next_accepted, targets_behind}
use Rattle.carry_model.proofs.NextStart.{starts_there}
use Rattle.carry_model.proofs.PassInTurnMet.{in_turn_met}
use Rattle.carry_model.proofs.CarryStatus.{carry_status}
use Rattle.carry_model.proofs.CarryRows.{carried_rows_hold}

pub carry_marks : CarryMarks
carry_marks = carried_as_marked

pub used_as_start : UsedAsStart
used_as_start = starts_there

pub start_accepted : StartAccepted
start_accepted = next_accepted

pub targets_accepted : TargetsAccepted
targets_accepted = targets_behind

pub joined_plans : JoinedPlans
joined_plans = plans_joined

pub joined_texts : JoinedTexts
joined_texts = texts_joined

-- the hypotheses of `joined_texts` can be met
pub pass_in_turn_met : (net : Network) × (net' : Network) × (plan : Plan) × (plan' : Plan) × PassInTurn (bytes read_a) (bytes plan_read_a) (bytes open_a) (bytes "csu\t00101\n") net net' plan plan'
pass_in_turn_met = in_turn_met

pub carry_rows_law : AllCarried carry_rows
carry_rows_law = carried_rows_hold

-- ---- the call

pub carry_buffer : CarryBufferKept
carry_buffer = carry_buffer_kept

pub carry_buffer_after : CarryBufferWritten
carry_buffer_after = carry_buffer_written

pub carry_refusals : CarryListed
carry_refusals = carry_listed

-- ---- Change 4

pub earlier_carried : CarryEarlier
earlier_carried = carry_earlier

-- ---- the exit status

pub carry_exit_status : CarryStatus
carry_exit_status = carry_status
