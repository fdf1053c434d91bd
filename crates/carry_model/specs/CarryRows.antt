-- Results as rows that fix readings of document 02, Change 3: a network text, a plan text, and what the carry program prints.
-- Assumes nothing.
use Rattle.std.specs.Prelude.{◌≡◌, List, [], ◌∷◌, map}
use Prim.Native.String.{String}
use Rattle.model.specs.Text.{bytes}
use Rattle.model.specs.Drawn.{A, D, plan_a}
use Rattle.carry_model.specs.Carry.{carry_program}

pub record CarryRow : Type 0 where
  pub network : String
  pub plan : String
  pub output : String

abbrev pub carries : String → String → String → CarryRow
carries network plan output = record { network = network; plan = plan; output = output }

abbrev pub AllCarried : List CarryRow → Type 0
AllCarried rows = map (λ r. carry_program (bytes r.network) (bytes r.plan)) rows ≡ map (λ r. bytes r.output) rows

-- A with a read in place of the write, a plan that reads it and leaves the branch open, and A's exercise from there
abbrev pub read_a : String
read_a = "seg\t0\t4\ts\nmux\t3\t0\t0\t1\nseg\t2\t1\ts\nout\t3\nread\t1\n"

abbrev pub plan_read_a : String
plan_read_a = "csu\t1\ncsu\t10100\n"

abbrev pub open_a : String
open_a = "seg\t0\t4\ts\nmux\t3\t0\t0\t1\nseg\t2\t1\ts\nout\t3\nhold\t1\t0010\nhold\t3\t1\nwrite\t1\t1010\n"

unfoldable pub carry_rows : List CarryRow
carry_rows =
    -- the bits written and the address; "BITS starts with the highest bit"; a multiplexer has no line
    carries A plan_a "hold\t1\t1010\nhold\t3\t0\n"
    -- a branch that stays open, and A's exercise from there
    ∷ carries read_a plan_read_a "hold\t1\t0010\nhold\t3\t1\n"
    ∷ carries open_a "csu\t00101\n" "hold\t1\t1010\nhold\t3\t0\n"
    -- both bits of an address
    ∷ carries D "csu\t01\n" "hold\t1\t10\n"
    -- a segment off every path stays unknown, a plain one is left as it was shifted
    ∷ carries "seg\t0\t2\ts\nseg\t0\t2\tp\nmux\t4\t0\t1\t2\nseg\t3\t1\ts\nout\t4\nread\t1\n" "csu\t110\n" "hold\t1\t01\nhold\t2\tXX\nhold\t4\t1\n"
    ∷ carries "seg\t0\t2\ts\nseg\t0\t2\tp\nmux\t4\t0\t1\t2\nseg\t3\t1\ts\nout\t4\nread\t1\n" "csu\t110\ncsu\t001\n" "hold\t1\t01\nhold\t2\t10\nhold\t4\t0\n"
    -- the empty plan leaves the start, X for X: RESET, `hold` instead of RESET, neither in a steering segment and in another
    ∷ carries "seg\t0\t4\ts\t01X1\nseg\t1\t3\tp\t1X0\nmux\t4\t0\t1\t2\nseg\t3\t2\ts\nseg\t0\t1\ts\nout\t4\nhold\t2\tX10\n" "" "hold\t1\t01X1\nhold\t2\tX10\nhold\t4\t00\nhold\t5\tX\n"
    -- else the mark's refusal: 15, 16, 17, 14
    ∷ carries A "csu\t1\ncsu\t0010\n" "fail\t15\t2\n"
    ∷ carries D "csu\t11\n" "fail\t16\t1\n"
    ∷ carries A "csu\t1\n" "fail\t17\t1\n"
    ∷ carries A "csu\t1" "fail\t14\t1\n"
    -- the network's refusals, 9 and 18, before the plan's
    ∷ carries "seg\t0\t4\ts\nmux\t3\t0\t0\t1\nseg\t2\t1\ts\tX\nout\t3\n" "" "fail\t9\t2\n"
    ∷ carries "seg\t0\t4\ts\t010\n" "csu\t1" "fail\t18\t1\n"
    ∷ []
