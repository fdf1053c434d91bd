-- Every promise of document 02's Changes 1, 4 and 5, with its proof.
-- Assumes nothing.
use mathlib.Core.Path.{◌≡◌}
use Rattle.model.specs.Drawn.{A, AllPrinted, reset_rows, long_rows, AllSummed, sum_rows}
use Rattle.model.specs.LongRegisters.{LenBounded, earlier_len, EarlierTexts, FirstTexts}
use Rattle.model.specs.Network.{Network}
use Rattle.model.specs.NetworkText.{read_up_to, read_network}
use Rattle.model.specs.Path.{ValidConfig}
use Rattle.model.specs.PathSum.{PathSums}
use Rattle.model.specs.Resets.{ResetsRead, ResetStarts, read_without_reset, OldForm, ReadAsBefore, AcceptedAsBefore, ResetRefused}
use Rattle.model.specs.Result.{ok}
use Rattle.model.specs.Text.{bytes}
use Rattle.model.proofs.Drawn.{rows_hold, sums_hold}
use Rattle.model.proofs.EarlierTexts.{len_bounded, earlier_texts, first_texts, earlier_met, first_met}
use Rattle.model.proofs.OldForm.{read_as_before, accepted_as_before, old_form_met}
use Rattle.model.proofs.PathSums.{path_sums, sums_met}
use Rattle.model.proofs.ResetForms.{resets_read, reset_refused}
use Rattle.model.proofs.ResetStarts.{reset_starts}

-- ---- Change 1, "Reset bits in the segment line"

pub reset_fields : ResetsRead
reset_fields = resets_read

pub resets : ResetStarts
resets = reset_starts

pub old_form : ReadAsBefore
old_form = read_as_before

pub old_texts : AcceptedAsBefore
old_texts = accepted_as_before

-- the hypothesis of `old_form` can be met
pub old_form_of_a : OldForm (bytes A)
old_form_of_a = old_form_met

pub reset_18 : ResetRefused
reset_18 = reset_refused

pub reset_rows_law : AllPrinted reset_rows
reset_rows_law = rows_hold.1

-- ---- Change 4, "Registers up to 64 bits"

pub len_up_to : LenBounded
len_up_to = len_bounded

pub earlier : EarlierTexts
earlier = earlier_texts

pub first : FirstTexts
first = first_texts

-- the hypotheses of `earlier` and of `first` can be met
pub earlier_of_a : (net : Network) × (read_up_to earlier_len (bytes A) ≡ ok net)
earlier_of_a = earlier_met

pub first_of_a : (net : Network) × (read_without_reset earlier_len (bytes A) ≡ ok net)
first_of_a = first_met

pub long_rows_law : AllPrinted long_rows
long_rows_law = rows_hold.2

-- ---- Change 5, "Add up the path from the other end"

pub sums : PathSums
sums = path_sums

-- the hypotheses of `sums` can be met
pub sums_of_a : (net : Network) × (read_network (bytes A) ≡ ok net) × ValidConfig net net.start
sums_of_a = sums_met

pub sum_rows_law : AllSummed sum_rows
sum_rows_law = sums_hold
