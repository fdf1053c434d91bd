-- Document 02, Change 3: texts that agree give the same wiring, and the printed lines, used as the next start, give the configuration that was left.
-- Assumes nothing.
use mathlib.Core.Path.{◌≡◌, sym, ap, ◌∙◌, subst}
use mathlib.Core.Bool.{true}
use Rattle.std.specs.Prelude.{Some as some}
use mathlib.Core.List.{List, [], Memᴰ}
use Prim.Native.Nat.{ℕ, suc, ◌<◌}
use lib.ListN.{length, get_or}
use Rattle.model.specs.Accepted.{Accepted}
use Rattle.model.specs.Network.{Node, Config, Network, no_node, is_segment}
use Rattle.model.specs.NetworkText.{Draft, no_lines, read_network}
use Rattle.model.specs.Result.{ok}
use Rattle.model.specs.Text.{Bytes, lines_of}
use Rattle.model.proofs.Accepted.{accepted}
use Rattle.model.proofs.AddedLines.{add_all, lines_added}
use Rattle.model.proofs.Lists.{some_same, ok_is}
use Rattle.model.proofs.Reading.{Source, source}
use Rattle.model.proofs.ResetStarts.{reset_starts}
use Rattle.carry_model.specs.Carry.{left_by}
use Rattle.carry_model.specs.Continued.{Agree, UsedAsStart}
use Rattle.carry_model.specs.Restart.{SameWiring}
use Rattle.carry_model.proofs.Carried.{Carried, carried_of}
use Rattle.carry_model.proofs.HeldStart.{segment_printed, same_config}
use Rattle.carry_model.proofs.LeftConfig.{RowsFit, start_sized, left_sized}
use Rattle.carry_model.proofs.LinesByKind.{bare, wiring_apart}

-- what the draft of an accepted text says of its network
module _ (t : Bytes) (net : Network) (a : Source t net) where
  pub source_nodes : a.draft.nodes ≡ net.nodes
  source_nodes = ap (λ (w : Network). w.nodes) a.is

  pub source_feeds : a.draft.feeds ≡ some net.out
  source_feeds = a.fed ∙ ap some (ap (λ (w : Network). w.out) a.is)

-- ---- texts that agree but for `hold` and targets

module _ (n n' : Bytes) (net net' : Network) (a : Source n net) (b : Source n' net') (agree : Agree n n') where
  bare_same : bare a.draft ≡ bare b.draft
  bare_same =
      let x = wiring_apart (a.behind, a.draft) (lines_of n) (lines_added n net a) in
      let y = wiring_apart (b.behind, b.draft) (lines_of n') (lines_added n' net' b) in
      ap (λ (z : ℕ × Draft). z.1) (ok_is (sym x.1 ∙ ap (add_all no_lines 1) (sym agree) ∙ y.1))

  pub same_nodes : net.nodes ≡ net'.nodes
  same_nodes = sym (source_nodes n net a) ∙ ap (λ (d : Draft). d.nodes) bare_same ∙ source_nodes n' net' b

  same_out : net.out ≡ net'.out
  same_out = some_same net.out net'.out (sym (source_feeds n net a) ∙ ap (λ (d : Draft). d.feeds) bare_same ∙ source_feeds n' net' b)

  pub same_wiring : SameWiring net net'
  same_wiring = λ i. record { nodes = same_nodes i; out = same_out i; start = net'.start; targets = net'.targets }

pub agreed_wiring : (n n' : Bytes) (net net' : Network) → read_network n ≡ ok net → read_network n' ≡ ok net' → Agree n n' → SameWiring net net'
agreed_wiring n n' net net' is is' agree = same_wiring n n' net net' (source n net is) (source n' net' is') agree

-- ---- the printed lines as the next start

pub starts_there : UsedAsStart
starts_there n p held n' net net' plan e next is reads is' = record {
  wiring = same_wiring n n' net net' a b next.agree;
  start = same_config net.nodes net'.start c (subst (λ (ns : List Node). RowsFit ns net'.start) (sym nodes) (start_sized net' (accepted n' net' is').wf)) sized starts;
}
  where
    a : Source n net
    a = source n net is

    b : Source n' net'
    b = source n' net' is'

    c : Config
    c = left_by net plan

    x : Carried net plan held
    x = carried_of n p held net plan e is reads

    acc : Accepted net
    acc = accepted n net is

    sized : RowsFit net.nodes c
    sized = left_sized net acc.wf plan x.valid.valid

    nodes : net.nodes ≡ net'.nodes
    nodes = same_nodes n n' net net' a b next.agree

    -- the second text has the printed line of each segment
    starts : (j : ℕ) → j < length net.nodes → is_segment (get_or net.nodes j no_node) ≡ true → get_or net'.start j [] ≡ get_or c j []
    starts j l y =
        let r = segment_printed net acc c sized j l y in
        (reset_starts n' net' is').held r.0 (suc j) (get_or c j []) (next.holds r.0 (subst (λ (t : Bytes). Memᴰ r.0 (lines_of t)) (sym x.text) r.1)) r.2
