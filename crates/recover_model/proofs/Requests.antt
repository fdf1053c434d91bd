-- Every promise of document 02's Change 2, with its proof.
-- Assumes nothing.
use Rattle.model.specs.Drawn.{A, plan_a}
use Rattle.model.specs.Printed.{clock_program}
use Rattle.model.specs.Text.{bytes}
use Rattle.recover_model.specs.RecoverDemands.{RecoverBufferKept, LineBufferKept, RecoverBufferWritten, LineBufferWritten, RecoverListed, LeftGoesOn, FirstGoesOn, LineByLine, InParts, HeldShort, RecoverStatus}
use Rattle.recover_model.specs.Recovered.{RoundTrip, ClkLineExact, RecoverExact, RefusedAtFirst, PlanOr19, ReallyPlayed, PlayedAndMarked, MarkedAsPlayed}
use Rattle.recover_model.specs.RecoverRows.{AllRecovered, recover_rows}
use Rattle.recover_model.proofs.ClockLines.{clk_line_exact}
use Rattle.recover_model.proofs.FirstOffending.{refused_first}
use Rattle.recover_model.proofs.InParts.{in_parts, held_short}
use Rattle.recover_model.proofs.LineByLine.{line_by_line}
use Rattle.recover_model.proofs.PlanOr19.{every_answer}
use Rattle.recover_model.proofs.PlayedMet.{played_and_marked_met}
use Rattle.recover_model.proofs.ReallyPlayed.{plays_the_same, marked_holds}
use Rattle.recover_model.proofs.RecoverBuffers.{recover_buffer_kept, recover_buffer_written, line_buffer_kept, line_buffer_written, left_goes_on, first_goes_on}
use Rattle.recover_model.proofs.RecoverPlaces.{recover_listed}
use Rattle.recover_model.proofs.RoundTrip.{text_given_back}
use Rattle.recover_model.proofs.TakenBack.{recovers_exactly}
use Rattle.recover_model.proofs.RecoverStatus.{recover_status}
use Rattle.recover_model.proofs.RecoverRows.{recovered_rows_hold}

pub round_trip : RoundTrip
round_trip = text_given_back

pub clk_lines_law : ClkLineExact
clk_lines_law = clk_line_exact

pub recover_exact : RecoverExact
recover_exact = recovers_exactly

pub refused_at_first : RefusedAtFirst
refused_at_first = refused_first

pub plan_or_19 : PlanOr19
plan_or_19 = every_answer

pub really_played : ReallyPlayed
really_played = plays_the_same

pub marked_as_played : MarkedAsPlayed
marked_as_played = marked_holds

-- the hypotheses of `marked_as_played` can be met
pub marked_as_played_of_a : PlayedAndMarked (bytes A) (clock_program (bytes plan_a))
marked_as_played_of_a = played_and_marked_met

pub recover_rows_law : AllRecovered recover_rows
recover_rows_law = recovered_rows_hold

-- ---- the calls

pub recover_buffer : RecoverBufferKept
recover_buffer = recover_buffer_kept

pub line_buffer : LineBufferKept
line_buffer = line_buffer_kept

pub recover_buffer_after : RecoverBufferWritten
recover_buffer_after = recover_buffer_written

pub line_buffer_after : LineBufferWritten
line_buffer_after = line_buffer_written

pub recover_refusals : RecoverListed
recover_refusals = recover_listed

pub left_can_go_on : LeftGoesOn
left_can_go_on = left_goes_on

pub first_can_go_on : FirstGoesOn
first_can_go_on = first_goes_on

pub calls_in_turn : LineByLine
calls_in_turn = line_by_line

pub cut_in_parts : InParts
cut_in_parts = in_parts

pub held_between_parts : HeldShort
held_between_parts = held_short

-- ---- the exit status

pub recover_exit_status : RecoverStatus
recover_exit_status = recover_status
