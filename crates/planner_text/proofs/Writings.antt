-- Laws of the two loops over the choices, for every network that the arrays hold: what their calls ask, and the loops' turns.
-- Assumes nothing.
use mathlib.Core.Path.{◌≡◌, refl, sym, ap, ◌∙◌, subst}
use mathlib.Core.List.{List}
use Rattle.std.specs.Prelude.{Ok, Err, IsOk}
use Prim.Native.Nat.{ℕ, ◌+◌, ◌≤◌, ◌<◌}
use native.Mathlib.Omega.{arith}
use lib.ListN.{length, get_or, take}
use Rattle.model.specs.Network.{Target, Network, steering_bits}
use Rattle.model.specs.Path.{path, path_length}
use Rattle.model.specs.Plan.{wanted}
use Rattle.network_path.specs.Layout.{scan_path}
use Rattle.network_path.specs.Answers.{Walked, WalkHeld, told}
use Rattle.network_path.specs.declared.walk.PathSize.{PathSize}
use Rattle.planner_theory.specs.Moves.{land, StepOf}
use Rattle.planner_theory.specs.Settings.{walk_at}
use Rattle.planner_theory.proofs.MoveLaws.{settings_within, path_short, land_within}
use Rattle.planner_steering.specs.declared.Problem.{Problem}
use Rattle.planner_settings.specs.Route.{Prepared, Each, WalkIs}
use Rattle.planner_rows.specs.Rows.{row_number, RowsRight, Lands, Landing, LandsIn}
use Rattle.planner_settings.proofs.SettingWalk.{planned_few}
use Rattle.planner_line.specs.Line.{WantsOf, HasRoom, Fills, LinePut}
use Rattle.planner_text.specs.Writing.{LandIn, CountsOf, Counts, WritesOf, Writes}
use Rattle.planner_text.proofs.WholeText.{
  Passed,
  Counted,
  Written,
  count_none,
  count_more,
  count_all,
  text_none,
  text_room,
  text_more,
  text_all,
  step_made,
  line_room,
  no_stop,
}

-- what the writers of a line ask
pub prepared_fills : {net : Network} {ns steering : List ℕ} {pb : Problem} {wants : List ℕ} → Prepared net ns steering pb → WantsOf pb.summary wants
    → Fills net ns steering wants
prepared_fills {ns = ns} p w =
    record { steering_is = p.steering_is; wants_are = λ s b l inside. w.are s l ns b inside ∙ ap (λ (ts : List Target). wanted ts s b) (sym p.targets_are) }

-- ---- the setting that choice c leads to, from the list of all

module _ {rows : List ℕ} {x c r : ℕ} {lands : List ℕ} (less : c < row_number rows x 1) (list : LandsIn rows x r lands) where
  listed : {net : Network} → Lands net rows x → c < r
  listed {net} d = omega (arith, d.row.count_is, (list.of net d).count_is)

  pub land_listed : Landing rows x → c < 64
  land_listed d = omega (arith, listed d.1, list.most)

  pub land_in : Landing rows x → {y : ℕ} → y ≡ get_or lands c 0 → LandIn rows x c y
  land_in d {y} e = record {
    of = to;
    small = omega (arith, to d.0 d.1, land_within d.0 x c, settings_within (length (steering_bits d.0.nodes)) d.1.few);
  }
    where
      to : (net : Network) → Lands net rows x → y ≡ land net x c
      to net d = e ∙ (list.of net d).lands_are c (listed d)

-- ---- one turn: i choices are passed, and x is the setting behind them

module _ {net : Network} {ns steering : List ℕ} {pb : Problem} {start : ℕ} {picked : List ℕ} {n : ℕ} {cs : List ℕ}
    (o : CountsOf net ns steering pb start picked n cs) where
  few : length (steering_bits net.nodes) ≤ 6
  few = planned_few net ns steering pb o.prepared

  first_passed : Passed net cs 0 start
  first_passed = record { small = o.picks.within; follows = o.picks.follows }

  module _ {i x : ℕ} (f : Passed net cs i x) where
    pub turn_small : x < 729
    turn_small = omega (arith, f.small, settings_within (length (steering_bits net.nodes)) few)

    module _ (l : i < n) where
      inside : i < length cs
      inside = omega (arith, o.picks.long)

      module _ {c : ℕ} (is : c ≡ get_or picked i 0) where
        choice_is : c ≡ get_or cs i 0
        choice_is = is ∙ o.picks.are i l

        turn_step : StepOf net x c
        turn_step = step_made net o.prepared.accepted cs i c inside choice_is x f

    -- row x is known
    module _ {rows : List ℕ} (right : RowsRight ns steering pb rows) (known : row_number rows x 0 ≡ 1) where
      pub turn_lands : Lands net rows x
      turn_lands = record { accepted = o.prepared.accepted; few = few; row = right.right net o.prepared x turn_small known }

      pub turn_choice : i < n → {c : ℕ} → c ≡ get_or picked i 0 → c < row_number rows x 1
      turn_choice l is = omega (arith, (turn_step l is).chosen, turn_lands.row.count_is)

-- ---- the length

abbrev pub Counting : List ℕ → List ℕ → Problem → ℕ → List ℕ → ℕ → ℕ → ℕ → ℕ → Type 0
Counting ns steering pb start picked n i x sum =
    (net : Network) (cs : List ℕ) → CountsOf net ns steering pb start picked n cs → Counted net start cs i x sum

module _ {ns steering : List ℕ} {pb : Problem} {start : ℕ} {picked : List ℕ} {n : ℕ} where
  pub counting_none : Counting ns steering pb start picked n 0 start 0
  counting_none net cs o = count_none net start cs (first_passed o)

  module _ {i x sum : ℕ} (s : Counting ns steering pb start picked n i x sum) where
    -- its line has 5 bytes and the bits of the path, whose count is in the row
    module _ (l : i < n) {rows : List ℕ} (right : RowsRight ns steering pb rows) (known : row_number rows x 0 ≡ 1) {len : ℕ} (long : len ≡ row_number rows x 4) where
      path_long : (net : Network) (cs : List ℕ) (o : CountsOf net ns steering pb start picked n cs) → len ≡ path_length (turn_step o (s net cs o).passed l refl).route
      path_long net cs o =
          let f = (s net cs o).passed in
          let st = turn_step o f l refl in
          long ∙ ((turn_lands o f right known).row.routed st.route st.walks).length_is

      pub counting_fits : {net : Network} {cs : List ℕ} → CountsOf net ns steering pb start picked n cs → sum + (5 + len) ≤ 64080
      counting_fits {net} {cs} o =
          let st = turn_step o (s net cs o).passed l refl in
          omega (arith, path_long net cs o, path_short net o.prepared.accepted x st.route st.walks, (s net cs o).bound, o.picks.most)

      pub counting_more : {c : ℕ} → c ≡ get_or picked i 0 → {next : ℕ} → LandIn rows x c next → Counting ns steering pb start picked n (i + 1) next (sum + (5 + len))
      counting_more {c} is {next} to net cs o =
          let f = (s net cs o).passed in
          let st = turn_step o f l refl in
          count_more net o.prepared.accepted cs i c (inside o f l) (choice_is o f l is) st.route st.walks (s net cs o) len next (path_long net cs o)
          (to.of net (turn_lands o f right known))

    pub counting_all : n ≤ i → Counts ns steering pb start picked n sum
    counting_all l net cs o = count_all (omega (arith, o.picks.long)) (s net cs o)

-- ---- the text

abbrev pub Writing : List ℕ → List ℕ → Problem → ℕ → List ℕ → ℕ → List ℕ → ℕ → ℕ → ℕ → List ℕ → Type 0
Writing ns steering pb start picked n old i x place buf =
    (net : Network) (cs : List ℕ) → WritesOf net ns steering pb start picked n old cs → Written net start cs old i x place buf

module _ {ns steering : List ℕ} {pb : Problem} {start : ℕ} {picked : List ℕ} {n : ℕ} {old : List ℕ} where
  pub writing_none : Writing ns steering pb start picked n old 0 start 0 old
  writing_none net cs o = text_none net start cs (first_passed o.counts) old

  module _ {i x place : ℕ} {buf : List ℕ} (s : Writing ns steering pb start picked n old i x place buf) where
    module _ (l : i < n) {r : Walked} {way : List ℕ} (w : Each ns steering pb (λ net. WalkIs net ns x r way)) where
      -- the walk ends at scan-in
      pub writing_walks : {net : Network} {cs : List ℕ} → WritesOf net ns steering pb start picked n old cs → IsOk r
      writing_walks {net} {cs} o = by r (w net o.counts.prepared).tells
        where
          by : (r : Walked) → walk_at net x ≡ told ns way r → IsOk r
          by (Ok size) e = refl
          by (Err m) e = absurd (no_stop (turn_step o.counts (s net cs o).passed l refl) m e)

      module _ (size : PathSize) (e : r ≡ Ok size) where
        abbrev m : ℕ
        m = size.segments

        path_walk : {net : Network} → Prepared net ns steering pb → walk_at net x ≡ path (scan_path ns (take m way))
        path_walk {net} p = (w net p).tells ∙ ap (told ns way) e

        -- what `put_line` asks
        path_held : {net : Network} → Prepared net ns steering pb → WalkHeld ns way (Ok size)
        path_held {net} p = subst (WalkHeld ns way) e (w net p).holds

        pub writing_room : {net : Network} {cs : List ℕ} → WritesOf net ns steering pb start picked n old cs
            → HasRoom ns way m (place + 5) buf × (size.bits ≡ path_length (scan_path ns (take m way)))
        writing_room {net} {cs} o =
            let q = o.counts in
            let f = (s net cs o).passed in
            let held = path_held q.prepared in (
              line_room ns way m place buf held.0
                  (omega (
                    arith,
                    (s net cs o).size,
                    text_room net q.prepared.accepted cs i (get_or picked i 0) (inside q f l) (choice_is q f l refl) (scan_path ns (take m way)) (path_walk q.prepared) (s net cs o) o.room,
                  )),
              held.1,
            )

        pub writing_more : {rows : List ℕ} → RowsRight ns steering pb rows → row_number rows x 0 ≡ 1 → {c : ℕ} → c ≡ get_or picked i 0
            → {h next end : ℕ} {new : List ℕ} → h ≡ row_number rows x 1 → LandIn rows x c next → end ≡ place + (5 + path_length (scan_path ns (take m way)))
            → length new ≡ length buf → {wants : List ℕ} → WantsOf pb.summary wants → LinePut ns steering wants way m place h c buf new → Writing ns steering pb start picked n old (i + 1) next end new
        writing_more right known {c} is {h} {next} {end} {new} choices to behind same ws put net cs o =
            let q = o.counts in
            let f = (s net cs o).passed in
            let lands = turn_lands q f right known in
            text_more net q.prepared.accepted cs i c (inside q f l) (choice_is q f l is) (scan_path ns (take m way)) (path_walk q.prepared) (s net cs o) o.room h next end new
            (choices ∙ lands.row.count_is) (to.of net lands) behind same (put net (prepared_fills q.prepared ws))

    pub writing_all : n ≤ i → Writes ns steering pb start picked n old buf
    writing_all l net cs o = text_all (omega (arith, o.counts.picks.long)) (s net cs o)
