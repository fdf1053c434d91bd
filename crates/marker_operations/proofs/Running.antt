-- Laws of the operations in turn: one operation, the loop over the lines of a plan text, and the run from the start.
-- Assumes nothing.
use mathlib.Core.Path.{◌≡◌, refl, sym, ap, ◌∙◌}
use mathlib.Core.Bool.{Bool, true, false, cond}
use mathlib.Core.List.{List, [], ◌∷◌, ◌++◌, map, append-nil, append_assoc}
use Prim.Native.Nat.{ℕ, suc, ◌+◌, ◌≤◌, ◌<◌}
use native.Mathlib.Omega.{arith}
use lib.Dec.{eqb}
use lib.ListN.{length, take, drop, length-append, length-map}
use borrow.Author.Tests.{eq-eqb}
use Rattle.std.specs.Prelude.{Result as Answer, Ok, Err}
use Rattle.model.specs.Result.{Result, ok, refused, and_then}
use Rattle.model.specs.Answers.{number_of}
use Rattle.model.specs.declared.refusal.Refusal.{Refusal}
use Rattle.model.specs.declared.refusal.Kind.TheVariants.{Start, Configuration}
use Rattle.model.specs.Text.{Bytes}
use Rattle.model.specs.Network.{Config, Network}
use Rattle.model.specs.Path.{ScanPath, Walk, path, stop, walk, path_length, csu}
use Rattle.model.specs.Plan.{Plan}
use Rattle.model.specs.PlanText.{read_plan, write_plan}
use Rattle.model.specs.Tap.{bit_byte}
use Rattle.model.specs.Mark.{Run, along, settled, run_from}
use Rattle.model.proofs.PlanTexts.{text_of}
use Rattle.network_words.specs.Words.{byte_bit}
use Rattle.network_path.specs.declared.walk.PathSize.{PathSize}
use Rattle.network_path.specs.Answers.{FindsPath, Loads}
use Rattle.network_path.proofs.StoredLaws.{found_path, found_stop}
use Rattle.plan_text.specs.Lines.{bit_run}
use Rattle.plan_text.proofs.Lines.{line_room, line_bits, line_next, line_more, line_none}
use Rattle.network_draft.specs.declared.store.Summary.{Summary}
use Rattle.marker_operations.specs.Operations.{Reached, Noted, config_at, State, path_at, OnPath, path_after, operated, Loaded, Operates, RanAs, HoldsStart, from_start}
use Rattle.marker_operations.proofs.Noting.{reached_more}

-- a walk's answer, with a refusal where a multiplexer stops it
abbrev pub told_as : (ℕ → Refusal) → Answer PathSize ℕ → Answer PathSize Refusal
told_as f (Ok size) = Ok size
told_as f (Err m) = Err (f m)

-- ---- one operation

module _ (ns : List ℕ) (t : Summary) (scan : Bytes) (k : ℕ) (size : PathSize) (old : State) where
  abbrev p : ScanPath
  p = path_at ns size.segments old

  abbrev bits : List Bool
  bits = map byte_bit scan

  module _ (new : State) (r : Answer PathSize ℕ) (long : length scan ≡ size.bits)
      (noted : Noted p (take t.target_count t.targets) k old.marking.met new.marking.met)
      (loads : Loads ns old.way size.segments scan old.marking.bits old.marking.known new.marking.bits new.marking.known)
      (found : FindsPath ns new.marking.bits new.marking.known t.out r new.way) where
    op_walk : (net : Network) (w : Walk) → OnPath net ns t size old → walk net (config_at ns t new.marking) ≡ w
        → operated net p (config_at ns t old.marking) bits k ≡ path_after k w
    op_walk net w o e =
        rw (eq-eqb (length bits) (path_length p) (length-map scan byte_bit ∙ long ∙ o.found.long), ← loads.loads t.count, e)

    op_loaded : {net : Network} → OnPath net ns t size old → Loaded ns t p scan k old.marking new.marking
    op_loaded o = record { as_long = long ∙ o.found.long; after = loads.loads t.count; noted = noted }

    pub op_next : (next : PathSize) → r ≡ Ok next → Operates ns t scan k size old (Ok next) new
    op_next next q net o =
        let f = found_path net ns t.count t.out o.stored new.marking.bits new.marking.known r new.way found next q in
        record {
          tells = sym (op_walk net _ o f.walks);
          leaves = (
            op_loaded o,
            record { stored = o.stored; found = f; in_limits = o.in_limits; sized = loads.sized; slots_law = noted.size },
          );
        }

    pub op_stop : (m : ℕ) → r ≡ Err m → Operates ns t scan k size old (Err record { kind = Configuration; place = k }) new
    op_stop m q net o =
        let stops = found_stop net ns t.count t.out o.stored new.marking.bits new.marking.known r new.way found m q in
        record { tells = sym (op_walk net _ o stops); leaves = λ e. (op_loaded o, (m, stops)) }

    -- the one or the other, by the walk's answer
    pub op_told : Operates ns t scan k size old (told_as (λ m. record { kind = Configuration; place = k }) r) new
    op_told = go r refl
      where
        go : (x : Answer PathSize ℕ) → r ≡ x → Operates ns t scan k size old (told_as (λ m. record { kind = Configuration; place = k }) x) new
        go (Ok next) e = op_next next e
        go (Err m) e = op_stop m e

-- ---- the model's run, one operation on

-- the rest of a run behind operations with the paths ps
abbrev pub behind : List ScanPath → Run → Result Run
behind ps r = ok record { paths = ps ++ r.paths; last = r.last }

behind_along : (ps : List ScanPath) (p : ScanPath) (a : Result Run) → and_then (and_then a (along p)) (behind ps) ≡ and_then a (behind (ps ++ p ∷ []))
behind_along ps p (ok r) = rw (append_assoc ps (p ∷ []) r.paths)
behind_along ps p (refused number place) = refl

behind_none : (a : Result Run) → a ≡ and_then a (behind [])
behind_none (ok r) = refl
behind_none (refused number place) = refl

run_step : (net : Network) (k : ℕ) (p : ScanPath) (c : Config) (bs : List Bool) (plan : Plan)
    → run_from net k p c (bs ∷ plan) ≡ and_then (operated net p c bs k) (λ q. and_then (run_from net (suc k) q (csu p bs c) plan) (along p))
unfolding run_from
run_step net k p c bs plan = go (eqb (length bs) (path_length p)) (walk net (csu p bs c))
  where
    go : (b : Bool) (w : Walk)
        → cond b (and_then (settled k w (λ q. run_from net (suc k) q (csu p bs c) plan)) (along p)) (refused 15 k)
        ≡ and_then (cond b (path_after k w) (refused 15 k)) (λ q. and_then (run_from net (suc k) q (csu p bs c) plan) (along p))
    go true (path q) = refl
    go true (stop m) = refl
    go false w = refl

-- ---- the loop: the run so far, and what is left of the text

pub record Going (net : Network) (plan : Plan) (ns : List ℕ) (t : Summary) (text : Bytes) (whole : Result Run) (at k : ℕ) (size : PathSize) (s : State) : Type 0 where
  pub ps : List ScanPath
  pub rest : Plan
  pub left : drop at text ≡ write_plan rest
  pub number : k ≡ suc (length ps)
  pub few : k ≤ suc at
  pub on : OnPath net ns t size s
  pub runs : whole ≡ and_then (run_from net k (path_at ns size.segments s) (config_at ns t s.marking) rest) (behind ps)
  pub reached : Reached t s.marking.met ps

module _ (net : Network) (plan : Plan) (ns : List ℕ) (t : Summary) (text : Bytes) where
  pub going_start : (size : PathSize) (s : State) → read_plan text ≡ ok plan → OnPath net ns t size s → Reached t s.marking.met []
      → Going net plan ns t text (run_from net 1 (path_at ns size.segments s) (config_at ns t s.marking) plan) 0 1 size s
  going_start size s e o r = record {
    ps = [];
    rest = plan;
    left = (text_of text plan e).text;
    number = refl;
    few = omega arith;
    on = o;
    runs = behind_none _;
    reached = r;
  }

  module _ (whole : Result Run) (at k : ℕ) (size : PathSize) (s : State) (g : Going net plan ns t text whole at k size s) where
    abbrev c : Config
    c = config_at ns t s.marking

    abbrev route : ScanPath
    route = path_at ns size.segments s

    pub going_end : length text ≤ at → RanAs ns t (Ok tt) s.marking whole
    unfolding run_from
    going_end h =
        let z = line_none text at g.rest g.left h in
        let w : whole ≡ ok record { paths = g.ps; last = c } = g.runs ∙ rw z (ap (λ (l : List ScanPath). ok record { paths = l; last = c }) (append-nil g.ps)) in
        (record { paths = g.ps; last = c }, w, refl, g.reached, g.on.sized)

    -- a line more
    module _ (more : at < length text) where
      pub going_room : at + 4 ≤ length text
      going_room =
          let m = line_more text at g.rest g.left more in
          omega (arith, line_room text at m.0 m.1 (g.left ∙ ap write_plan m.2))

      module _ (scan : Bytes) (is : scan ≡ map bit_byte (bit_run (drop (at + 4) text))) where
        record Line : Type 0 where
          others : Plan
          whole_is : whole ≡ and_then (run_from net k route c (map byte_bit scan ∷ others)) (behind g.ps)
          room : at + (5 + length scan) ≤ length text
          next : drop (at + (5 + length scan)) text ≡ write_plan others

        back : (bs : List Bool) → map byte_bit (map bit_byte bs) ≡ bs
        back [] = refl
        back (true ∷ bs) = ap (λ (l : List Bool). true ∷ l) (back bs)
        back (false ∷ bs) = ap (λ (l : List Bool). false ∷ l) (back bs)

        line : Line
        line =
            let m = line_more text at g.rest g.left more in
            let here : drop at text ≡ write_plan (m.0 ∷ m.1) = g.left ∙ ap write_plan m.2 in
            let e : scan ≡ map bit_byte m.0 = is ∙ ap (map bit_byte) (line_bits text at m.0 m.1 here) in
            let l : length scan ≡ length m.0 = ap length e ∙ length-map m.0 bit_byte in
            let f : m.0 ≡ map byte_bit scan = sym (ap (map byte_bit) e ∙ back m.0) in
            record {
              others = m.1;
              whole_is = g.runs ∙ ap (λ (q : Plan). and_then (run_from net k route c q) (behind g.ps)) (m.2 ∙ ap (λ (b : List Bool). b ∷ m.1) f);
              room = omega (arith, line_room text at m.0 m.1 here);
              next = ap (λ (i : ℕ). drop (at + (5 + i)) text) l ∙ line_next text at m.0 m.1 here;
            }

        pub going_further : at + (5 + length scan) ≤ length text
        going_further = line.room

        -- the rest after the operation
        abbrev after : ScanPath → Result Run
        after q = and_then (run_from net (suc k) q (csu route (map byte_bit scan) c) line.others) (along route)

        by_operation : (a : Result ScanPath) → a ≡ operated net route c (map byte_bit scan) k → whole ≡ and_then (and_then a after) (behind g.ps)
        by_operation a e =
            line.whole_is ∙ ap (λ (r : Result Run). and_then r (behind g.ps)) (run_step net k route c (map byte_bit scan) line.others ∙ ap (λ (r : Result ScanPath). and_then r after) (sym e))

        pub going_refused : (r : Refusal) (new : State) → Operates ns t scan k size s (Err r) new → whole ≡ refused (number_of r.kind) r.place
        going_refused r new o = by_operation _ (o net g.on).tells

        pub going_next : (next : PathSize) (new : State) → Operates ns t scan k size s (Ok next) new → Going net plan ns t text whole (at + (5 + length scan)) (k + 1) next new
        going_next next new o =
            let a = o net g.on in
            let z : k + 1 ≡ suc k = omega arith in
            record {
              ps = g.ps ++ route ∷ [];
              rest = line.others;
              left = line.next;
              number = omega (arith, g.number, length-append g.ps (route ∷ []));
              few = omega (arith, g.few);
              on = a.leaves.1;
              runs =
                  by_operation _ a.tells
                  ∙ behind_along g.ps route (run_from net (suc k) (path_at ns next.segments new) (csu route (map byte_bit scan) c) line.others) ∙ rw (z, a.leaves.0.after) refl;
              reached = reached_more t g.ps route k s.marking.met new.marking.met g.on.in_limits g.number g.reached a.leaves.0.noted;
            }

-- ---- from the start

module _ (net : Network) (plan : Plan) (ns : List ℕ) (t : Summary) (s : State) (r : Answer PathSize ℕ) (h : HoldsStart net ns t s.marking)
    (found : FindsPath ns s.marking.bits s.marking.known t.out r s.way) where
  pub start_stops : (e : Refusal) → Err e ≡ told_as (λ m. record { kind = Start; place = m }) r → from_start net plan (walk net net.start) ≡ refused (number_of e.kind) e.place
  start_stops e q = go r refl q
    where
      go : (x : Answer PathSize ℕ) → r ≡ x → Err e ≡ told_as (λ m. record { kind = Start; place = m }) x → from_start net plan (walk net net.start) ≡ refused (number_of e.kind) e.place
      go (Ok size) f q = absurd (cc q)
      go (Err m) f q =
          let same : e ≡ record { kind = Start; place = m } = cc q in
          rw same (ap (from_start net plan) (ap (walk net) (sym h.start) ∙ found_stop net ns t.count t.out h.stored s.marking.bits s.marking.known r s.way found m f))

  pub start_on : (size : PathSize) → r ≡ Ok size → OnPath net ns t size s
  start_on size e = record {
    stored = h.stored;
    found = found_path net ns t.count t.out h.stored s.marking.bits s.marking.known r s.way found size e;
    in_limits = h.in_limits;
    sized = h.sized;
    slots_law = h.slots_law;
  }

  pub start_runs : (size : PathSize) → r ≡ Ok size → run_from net 1 (path_at ns size.segments s) (config_at ns t s.marking) plan ≡ from_start net plan (walk net net.start)
  start_runs size e = rw h.start (sym (ap (from_start net plan) (ap (walk net) (sym h.start) ∙ (start_on size e).found.walks)))
