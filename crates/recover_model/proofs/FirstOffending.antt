-- A refusal stands at the first offending line.
-- Assumes nothing.
use mathlib.Core.Path.{◌≡◌, refl, sym, ap, ◌∙◌, subst}
use mathlib.Core.Bool.{Bool, true, false, cond}
use Rattle.std.specs.Prelude.{Option, None as none, Some as some}
use mathlib.Core.List.{List, [], ◌∷◌, ◌++◌, append_assoc, append-nil}
use Prim.Native.Nat.{ℕ, suc, ◌≤◌}
use native.Mathlib.Omega.{arith}
use lib.ListN.{length, take, get_or, length-append}
use lib.Seq.{take-append-le, take_all, take_at, get_or-append_seam, append_snoc}
use lib.Dec.{leb}
use borrow.Author.Tests.{leb-true, leb-false}
use Rattle.model.specs.Refusals as refusal
use Rattle.model.specs.Result.{ok, refused}
use Rattle.model.specs.Tap.{idle, is_in, Clock}
use Rattle.model.specs.Text.{Bytes, bind, line_end}
use Rattle.model.proofs.LineForms.{bound}
use Rattle.model.proofs.Lists.{true_false, none_some, some_same, not_ok, refusal_place}
use Rattle.model.proofs.PlanTexts.{parts_more}
use Rattle.recover_model.specs.ClockText.{clk_line, joined_clocks}
use Rattle.recover_model.specs.Recover.{Follower, at_start, follow_clocks, follow_line, if_followed, at_rest_law, follow_lines, recover}
use Rattle.recover_model.specs.Recovered.{Within, Fine, Offence, in_line, unended, not_at_rest, FirstOffending, RefusedAtFirst}
use Rattle.recover_model.proofs.RecoverLimits.{start_followed, start_within}
use Rattle.recover_model.proofs.TakenBack.{reaches, follow_append, joined_line, joined_first}

-- ---- lines joined with those behind them

only_line : (l : Bytes) (cs : List Clock) → joined_clocks (l ∷ [] ∷ []) ≡ some cs → clk_line l ≡ some cs
unfolding joined_clocks
only_line l cs e =
    let j = joined_first l [] [] cs e in
    j.given ∙ ap some (sym (append-nil j.here) ∙ ap (λ (x : List Clock). j.here ++ x) (some_same [] j.later j.others) ∙ j.all)

joined_append : (done : List Bytes) (l : Bytes) (ls : List Bytes) (cs ds : List Clock) → joined_clocks (done ++ [] ∷ []) ≡ some cs → joined_clocks (l ∷ ls) ≡ some ds
    → joined_clocks (done ++ l ∷ ls) ≡ some (cs ++ ds)
unfolding joined_clocks
joined_append [] l ls cs ds p q = q ∙ ap (λ (x : List Clock). some (x ++ ds)) (some_same [] cs p)
joined_append (d ∷ []) l ls cs ds p q = joined_line d l ls cs ds (only_line d cs p) q
joined_append (d ∷ e ∷ done) l ls cs ds p q =
    let j = joined_first d e (done ++ [] ∷ []) cs p in
    joined_line d e (done ++ l ∷ ls) j.here (j.later ++ ds) j.given (joined_append (e ∷ done) l ls j.later ds j.others q)
    ∙ ap some (sym (append_assoc j.here j.later ds) ∙ ap (λ (x : List Clock). x ++ ds) j.all)

record Split (done : List Bytes) (l : Bytes) (ls : List Bytes) (cs : List Clock) : Type 0 where
  first : List Clock
  second : List Clock
  of_done : joined_clocks (done ++ [] ∷ []) ≡ some first
  of_rest : joined_clocks (l ∷ ls) ≡ some second
  all : first ++ second ≡ cs

joined_split : (done : List Bytes) (l : Bytes) (ls : List Bytes) (cs : List Clock) → joined_clocks (done ++ l ∷ ls) ≡ some cs → Split done l ls cs
unfolding joined_clocks
joined_split [] l ls cs e = record { first = []; second = cs; of_done = refl; of_rest = e; all = refl }
joined_split (d ∷ []) l ls cs e =
    let j = joined_first d l ls cs e in
    record {
      first = j.here ++ [];
      second = j.later;
      of_done = joined_line d [] [] j.here [] j.given refl;
      of_rest = j.others;
      all = ap (λ (x : List Clock). x ++ j.later) (append-nil j.here) ∙ j.all;
    }
joined_split (d ∷ e ∷ done) l ls cs q =
    let j = joined_first d e (done ++ l ∷ ls) cs q in
    let r = joined_split (e ∷ done) l ls j.later j.others in
    record {
      first = j.here ++ r.first;
      second = r.second;
      of_done = joined_line d e (done ++ [] ∷ []) j.here r.first j.given r.of_done;
      of_rest = r.of_rest;
      all = append_assoc j.here r.first r.second ∙ ap (λ (x : List Clock). j.here ++ x) r.all ∙ j.all;
    }

-- ---- the lines followed so far, all fine

record FineSoFar (done : List Bytes) (n : ℕ) (f : Follower) : Type 0 where
  count : n ≡ length done
  clocks : List Clock
  are : joined_clocks (done ++ [] ∷ []) ≡ some clocks
  followed : follow_clocks at_start clocks ≡ some f
  fine : (k : ℕ) → k ≤ n → Fine (take k done)

-- a line more
done_more : (done : List Bytes) (l : Bytes) (n : ℕ) (f g : Follower) → FineSoFar done n f → follow_line f l ≡ some g → FineSoFar (done ++ l ∷ []) (suc n) g
unfolding follow_line joined_clocks
done_more done l n f g d e =
    let c = bound (clk_line l) (follow_clocks f) g e in
    let here : joined_clocks (l ∷ [] ∷ []) ≡ some c.value = joined_line l [] [] c.value [] c.given refl ∙ ap some (append-nil c.value) in
    let are : joined_clocks ((done ++ l ∷ []) ++ [] ∷ []) ≡ some (d.clocks ++ c.value) =
    ap joined_clocks (append_snoc done l ([] ∷ [])) ∙ joined_append done l ([] ∷ []) d.clocks c.value d.are here in
    let goes_on : follow_clocks at_start (d.clocks ++ c.value) ≡ some g =
    follow_append d.clocks c.value at_start ∙ ap (λ (o : Option Follower). bind o (λ h. follow_clocks h c.value)) d.followed ∙ c.then in
    record {
      count = omega (arith, d.count, length-append done (l ∷ []));
      clocks = d.clocks ++ c.value;
      are = are;
      followed = goes_on;
      fine = λ k m. go (d.clocks ++ c.value) are (start_followed (d.clocks ++ c.value) g goes_on) k m (leb k n) refl;
    }
  where
    go : (cs : List Clock) → joined_clocks ((done ++ l ∷ []) ++ [] ∷ []) ≡ some cs → Within cs → (k : ℕ) → k ≤ suc n → (t : Bool) → leb k n ≡ t → Fine (take k (done ++ l ∷ []))
    go cs are w k m true q =
        let le = leb-true k n q in
        subst Fine (sym (take-append-le k done (l ∷ []) (omega (arith, d.count)))) (d.fine k le)
    go cs are w k m false q =
        let lt = leb-false k n q in
        subst Fine (sym (take_all k (done ++ l ∷ []) (omega (arith, d.count, length-append done (l ∷ []))))) (cs, are, w)

-- a line behind them that is fine too is followed
fine_next : (done : List Bytes) (l : Bytes) (n : ℕ) (f : Follower) → FineSoFar done n f → Fine (done ++ l ∷ []) → (g : Follower) × (follow_line f l ≡ some g)
unfolding follow_line joined_clocks
fine_next done l n f d x =
    let s = joined_split done l ([] ∷ []) x.0 (ap joined_clocks (sym (append_snoc done l ([] ∷ []))) ∙ x.1) in
    let same : s.first ≡ d.clocks = some_same s.first d.clocks (sym s.of_done ∙ d.are) in
    let g = start_within x.0 x.2 in
    let a : follow_clocks at_start (d.clocks ++ s.second) ≡ some g.0 = ap (λ (y : List Clock). follow_clocks at_start (y ++ s.second)) (sym same) ∙ ap (follow_clocks at_start) s.all ∙ g.1 in
    let b : follow_clocks f s.second ≡ some g.0 =
    ap (λ (o : Option Follower). bind o (λ h. follow_clocks h s.second)) (sym d.followed) ∙ sym (follow_append d.clocks s.second at_start) ∙ a in
    (g.0, ap (λ (o : Option (List Clock)). bind o (follow_clocks f)) (only_line l s.second s.of_rest) ∙ b)

-- ---- the refusal

not_resting : (n : ℕ) (f : Follower) (number place : ℕ) → at_rest_law n f ≡ refused number place → (n ≡ place) × ¬ (f.state ≡ idle)
not_resting n f number place e = go (is_in idle f.state) refl e
  where
    go : (t : Bool) → is_in idle f.state ≡ t → cond t (ok f.plan) (refused refusal.clock_line n) ≡ refused number place → (n ≡ place) × ¬ (f.state ≡ idle)
    go true q x = absurd (not_ok (sym x))
    go false q x = (refusal_place x, λ s. true_false (sym (ap (is_in idle) s) ∙ q))

some_byte : (b : ℕ) (l : Bytes) → b ∷ l ≡ [] → ⊥
some_byte b l e = let z : ◌≡◌ {A = ℕ} 0 1 = cc in omega arith

earlier : (done : List Bytes) (l : Bytes) (ls : List Bytes) (n : ℕ) (f : Follower) → FineSoFar done n f → (k : ℕ) → k ≤ n → Fine (take k (done ++ l ∷ ls))
earlier done l ls n f d k m = subst Fine (sym (take-append-le k done (l ∷ ls) (omega (arith, d.count)))) (d.fine k m)

module _ (number place : ℕ) where
  offends_first : (ls : List Bytes) (l : Bytes) (done : List Bytes) (n : ℕ) (f : Follower) → FineSoFar done n f → follow_lines n f (l ∷ ls) ≡ refused number place → FirstOffending (done ++ l ∷ ls) place
  unfolding follow_lines
  offends_first [] [] done n f d e =
      let r = not_resting n f number place e in
      let p : n ≡ place = r.0 in
      let y = reaches d.clocks at_start f d.followed in
      record {
        before = λ k m. earlier done [] [] n f d k (omega arith);
        offence = not_at_rest (omega (arith, d.count, length-append done ([] ∷ []))) d.are (λ s. r.1 (y.state ∙ s));
      }
  offends_first [] (b ∷ l) done n f d e =
      let p : suc n ≡ place = refusal_place e in
      record {
        before = λ k m. earlier done (b ∷ l) [] n f d k (omega arith);
        offence = subst (Offence (done ++ (b ∷ l) ∷ [])) p (unended (omega (arith, d.count, length-append done ((b ∷ l) ∷ [])))
            (λ z. some_byte b l (sym (get_or-append_seam done (b ∷ l) [] []) ∙ ap (λ (k : ℕ). get_or (done ++ (b ∷ l) ∷ []) k []) (sym d.count) ∙ z)));
      }
  offends_first (m ∷ ls) l done n f d e = go (follow_line f l) refl e (λ g c x. offends_first ls m (done ++ l ∷ []) (suc n) g c x)
    where
      go : (o : Option Follower) → follow_line f l ≡ o → if_followed (suc n) o (λ g. follow_lines (suc n) g (m ∷ ls)) ≡ refused number place
          → ((g : Follower) → FineSoFar (done ++ l ∷ []) (suc n) g → follow_lines (suc n) g (m ∷ ls) ≡ refused number place → FirstOffending ((done ++ l ∷ []) ++ m ∷ ls) place)
          → FirstOffending (done ++ l ∷ m ∷ ls) place
      go (some g) q x rest = subst (λ (y : List Bytes). FirstOffending y place) (append_snoc done l (m ∷ ls)) (rest g (done_more done l n f g d q) x)
      go none q x rest =
          let p : suc n ≡ place = refusal_place x in
          let w : take (suc n) (done ++ l ∷ m ∷ ls) ≡ done ++ l ∷ [] =
          ap (take (suc n)) (sym (append_snoc done l (m ∷ ls))) ∙ take_at (done ++ l ∷ []) (m ∷ ls) (suc n) (omega (arith, d.count, length-append done (l ∷ []))) in
          record {
            before = λ k i. earlier done l (m ∷ ls) n f d k (omega arith);
            offence = subst (Offence (done ++ l ∷ m ∷ ls)) p (in_line (omega (arith, d.count, length-append done (l ∷ m ∷ ls)))
                (λ y. let h = fine_next done l n f d (subst Fine w y) in none_some h.0 (sym q ∙ h.1)));
          }

nothing_done : FineSoFar [] 0 at_start
unfolding joined_clocks follow_clocks
nothing_done = record { count = refl; clocks = []; are = refl; followed = refl; fine = λ k m. subst Fine (sym (take_all k [] (omega arith))) ([], refl, start_followed [] at_start refl) }

pub refused_first : RefusedAtFirst
unfolding recover
refused_first t number place e =
    let p = parts_more line_end t in
    subst (λ (x : List Bytes). FirstOffending x place) (sym p.2) (offends_first number place p.1 p.0 [] 0 at_start nothing_done (ap (follow_lines 0 at_start) (sym p.2) ∙ e))
