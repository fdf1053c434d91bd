-- Which texts of clocks give a plan, and which plan: the passages of the joined clocks.
-- Assumes nothing.
use mathlib.Core.Path.{◌≡◌, refl, sym, ap, ◌∙◌}
use mathlib.Core.Bool.{Bool, true, false, cond}
use Rattle.std.specs.Prelude.{Option, None as none, Some as some}
use mathlib.Core.List.{List, [], ◌∷◌, ◌++◌, map, append_assoc, append-nil}
use Prim.Native.Nat.{ℕ, suc}
use Rattle.model.specs.Plan.{Plan}
use Rattle.model.specs.Refusals as refusal
use Rattle.model.specs.Result.{ok, refused}
use Rattle.model.specs.Tap.{Tap, idle, next, is_in, state_after, Action, capture, shift, update, keep, action, Clock}
use Rattle.model.specs.Text.{Bytes, bind, line_end, parts}
use Rattle.model.proofs.LineForms.{bound}
use Rattle.model.proofs.Lists.{none_some, some_same, not_ok, ok_is}
use Rattle.recover_model.specs.ClockText.{clk_line, joined_clocks}
use Rattle.recover_model.specs.Recover.{Follower, at_start, taken, moved, follow_clock, follow_clocks, follow_line, if_followed, at_rest_law, follow_lines, recover}
use Rattle.recover_model.specs.Recovered.{add_passage, passages, Recovers, RecoverExact}
use Rattle.recover_model.proofs.ClockLines.{tms_of}
use Rattle.recover_model.proofs.Following.{moved_state, moved_bits, moved_plan, followed}
use Rattle.recover_model.proofs.RecoverLimits.{start_followed, start_within}
use Rattle.recover_model.proofs.TapStates.{is_idle}

-- ---- where clocks lead, and the passages that they end

taken_passage : (a : Action) (d : Bool) (f : Follower) (later : List Bool → Plan)
    → (taken a d f).plan ++ later (taken a d f).bits ≡ f.plan ++ add_passage a d f.bits later
taken_passage capture d f later = refl
taken_passage shift d f later = refl
taken_passage update d f later = append_assoc f.plan (f.bits ∷ []) (later [])
taken_passage keep d f later = refl

moved_passage : (f : Follower) (c : Clock) (later : List Bool → Plan)
    → (moved f c).plan ++ later (moved f c).bits ≡ f.plan ++ add_passage (action f.state) c.tdi f.bits later
moved_passage f c later = rw (moved_plan f c, moved_bits f c) (taken_passage (action f.state) c.tdi f later)

pub record Reached (f : Follower) (cs : List Clock) (g : Follower) : Type 0 where
  pub state : g.state ≡ state_after f.state (map tms_of cs)
  pub plan : g.plan ≡ f.plan ++ passages f.state f.bits cs

pub reaches : (cs : List Clock) (f g : Follower) → follow_clocks f cs ≡ some g → Reached f cs g
unfolding follow_clocks state_after passages
reaches [] f g e = let z = some_same f g e in record { state = ap (λ (x : Follower). x.state) (sym z); plan = ap (λ (x : Follower). x.plan) (sym z) ∙ sym (append-nil f.plan) }
reaches (c ∷ cs) f g e =
    let b = bound (follow_clock f c) _ g e in
    let h = b.value in
    let y = followed f c h b.given in
    let s : h.state ≡ next f.state c.tms = ap (λ (x : Follower). x.state) (sym y.is) ∙ moved_state f c in
    let r = reaches cs h g b.then in
    let later : List Bool → Plan = λ bs. passages (next f.state c.tms) bs cs in
    record {
      state = r.state ∙ ap (λ (t : Tap). state_after t (map tms_of cs)) s;
      plan = r.plan ∙ ap (λ (t : Tap). h.plan ++ passages t h.bits cs) s
          ∙ ap (λ (x : Follower). x.plan ++ later x.bits) (sym y.is) ∙ moved_passage f c later;
    }

-- ---- clocks joined

pub follow_append : (cs ds : List Clock) (f : Follower) → follow_clocks f (cs ++ ds) ≡ bind (follow_clocks f cs) (λ g. follow_clocks g ds)
unfolding follow_clocks
follow_append [] ds f = refl
follow_append (c ∷ cs) ds f = go (follow_clock f c) (follow_append cs ds)
  where
    go : (o : Option Follower) → ((g : Follower) → follow_clocks g (cs ++ ds) ≡ bind (follow_clocks g cs) (λ g. follow_clocks g ds))
        → bind o (λ g. follow_clocks g (cs ++ ds)) ≡ bind (bind o (λ g. follow_clocks g cs)) (λ g. follow_clocks g ds)
    go none rest = refl
    go (some g) rest = rest g

pub joined_line : (l m : Bytes) (ls : List Bytes) (cs ds : List Clock) → clk_line l ≡ some cs → joined_clocks (m ∷ ls) ≡ some ds → joined_clocks (l ∷ m ∷ ls) ≡ some (cs ++ ds)
unfolding joined_clocks
joined_line l m ls cs ds p q = rw (p, q)

pub record JoinedFirst (l m : Bytes) (ls : List Bytes) (cs : List Clock) : Type 0 where
  pub here : List Clock
  pub later : List Clock
  pub given : clk_line l ≡ some here
  pub others : joined_clocks (m ∷ ls) ≡ some later
  pub all : here ++ later ≡ cs

pub joined_first : (l m : Bytes) (ls : List Bytes) (cs : List Clock) → joined_clocks (l ∷ m ∷ ls) ≡ some cs → JoinedFirst l m ls cs
unfolding joined_clocks
joined_first l m ls cs e =
    let a = bound (clk_line l) _ cs e in
    let b = bound (joined_clocks (m ∷ ls)) _ cs a.then in
    record { here = a.value; later = b.value; given = a.given; others = b.given; all = some_same _ cs b.then }

-- ---- lines that give a plan

-- their clocks, and where they lead
pub record LinesFollowed (f : Follower) (ls : List Bytes) (plan : Plan) : Type 0 where
  pub clocks : List Clock
  pub last : Follower
  pub are : joined_clocks ls ≡ some clocks
  pub followed : follow_clocks f clocks ≡ some last
  pub rests : last.state ≡ idle
  pub given : last.plan ≡ plan

at_rest : (n : ℕ) (f : Follower) (plan : Plan) → at_rest_law n f ≡ ok plan → (f.state ≡ idle) × (f.plan ≡ plan)
at_rest n f plan e = go (is_in idle f.state) refl e
  where
    go : (t : Bool) → is_in idle f.state ≡ t → cond t (ok f.plan) (refused refusal.clock_line n) ≡ ok plan → (f.state ≡ idle) × (f.plan ≡ plan)
    go true q x = (is_idle f.state q, ok_is x)
    go false q x = absurd (not_ok x)

lines_followed : (ls : List Bytes) (n : ℕ) (f : Follower) (plan : Plan) → follow_lines n f ls ≡ ok plan → LinesFollowed f ls plan
unfolding follow_lines follow_clocks joined_clocks follow_line
lines_followed [] n f plan e = let r = at_rest n f plan e in record { clocks = []; last = f; are = refl; followed = refl; rests = r.0; given = r.1 }
lines_followed ([] ∷ []) n f plan e = let r = at_rest n f plan e in record { clocks = []; last = f; are = refl; followed = refl; rests = r.0; given = r.1 }
lines_followed ((b ∷ l) ∷ []) n f plan e = absurd (not_ok e)
lines_followed (l ∷ m ∷ ls) n f plan e = go (follow_line f l) refl e (λ g x. lines_followed (m ∷ ls) (suc n) g plan x)
  where
    go : (o : Option Follower) → follow_line f l ≡ o → if_followed (suc n) o (λ g. follow_lines (suc n) g (m ∷ ls)) ≡ ok plan
        → ((g : Follower) → follow_lines (suc n) g (m ∷ ls) ≡ ok plan → LinesFollowed g (m ∷ ls) plan) → LinesFollowed f (l ∷ m ∷ ls) plan
    go none q x rest = absurd (not_ok x)
    go (some g) q x rest =
        let c = bound (clk_line l) (follow_clocks f) g q in
        let r = rest g x in
        record {
          clocks = c.value ++ r.clocks;
          last = r.last;
          are = joined_line l m ls c.value r.clocks c.given r.are;
          followed = follow_append c.value r.clocks f ∙ ap (λ (o : Option Follower). bind o (λ g. follow_clocks g r.clocks)) c.then ∙ r.followed;
          rests = r.rests;
          given = r.given;
        }

pub text_followed : (t : Bytes) (plan : Plan) → recover t ≡ ok plan → LinesFollowed at_start (parts line_end t) plan
unfolding recover
text_followed t plan e = lines_followed (parts line_end t) 0 at_start plan e

rests_now : (n : ℕ) (f g : Follower) (cs : List Clock) → some [] ≡ some cs → follow_clocks f cs ≡ some g → g.state ≡ idle → at_rest_law n f ≡ ok g.plan
unfolding follow_clocks
rests_now n f g cs e w s =
    let z : f ≡ g = some_same f g (ap (follow_clocks f) (some_same [] cs e) ∙ w) in
    ap (at_rest_law n) z ∙ rw s

follows_lines : (ls : List Bytes) (n : ℕ) (f g : Follower) (cs : List Clock) → joined_clocks ls ≡ some cs → follow_clocks f cs ≡ some g → g.state ≡ idle → follow_lines n f ls ≡ ok g.plan
unfolding follow_lines joined_clocks follow_line follow_clocks
follows_lines [] n f g cs e w s = rests_now n f g cs e w s
follows_lines ([] ∷ []) n f g cs e w s = rests_now n f g cs e w s
follows_lines ((b ∷ l) ∷ []) n f g cs e w s = absurd (none_some cs e)
follows_lines (l ∷ m ∷ ls) n f g cs e w s =
    let j = joined_first l m ls cs e in
    let x : bind (follow_clocks f j.here) (λ h. follow_clocks h j.later) ≡ some g = sym (follow_append j.here j.later f) ∙ ap (follow_clocks f) j.all ∙ w in
    let h = bound (follow_clocks f j.here) _ g x in
    let q : follow_line f l ≡ some h.value = ap (λ (o : Option (List Clock)). bind o (follow_clocks f)) j.given ∙ h.given in
    ap (λ (o : Option Follower). if_followed (suc n) o (λ k. follow_lines (suc n) k (m ∷ ls))) q ∙ follows_lines (m ∷ ls) (suc n) h.value g j.later j.others h.then s

-- ---- the theorem

pub recovers_exactly : RecoverExact
unfolding recover
recovers_exactly t plan = (there, back)
  where
    there : recover t ≡ ok plan → Recovers t plan
    there e =
        let r = text_followed t plan e in
        let y = reaches r.clocks at_start r.last r.followed in
        record {
          clocks = r.clocks;
          joined = r.are;
          within = start_followed r.clocks r.last r.followed;
          at_rest = sym y.state ∙ r.rests;
          its_passages = sym y.plan ∙ r.given;
        }

    back : Recovers t plan → recover t ≡ ok plan
    back w =
        let g = start_within w.clocks w.within in
        let y = reaches w.clocks at_start g.0 g.1 in
        follows_lines (parts line_end t) 0 at_start g.0 w.clocks w.joined g.1 (y.state ∙ w.at_rest) ∙ ap ok (y.plan ∙ w.its_passages)
