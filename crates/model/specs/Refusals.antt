-- The numbers of the refusals by name, in the order of document 01's table, "Numbers and places", then as document 02 adds them.
-- Assumes nothing.
use Rattle.std.specs.Prelude.{ℕ}

-- "1, line: word, field count or field form wrong; last line unended"
abbrev pub form : ℕ
form = 1

-- "2, line: FROM, input, LEN or N outside its bounds"
abbrev pub bounds : ℕ
bounds = 2

-- "3, line: node 129, or over 4,000 bits; place 0: text too long"
abbrev pub size : ℕ
size = 3

-- "4, line: word out of order; no `out` (last line number + 1)"
abbrev pub order : ℕ
order = 4

-- "5, mux's line: SEG not a segment with shadow, or an address bit beyond it; lowest such line"
abbrev pub address : ℕ
address = 5

-- "6, line: `hold`, `write`, `read`: not a segment, BITS not LEN long, or same word and segment again"
abbrev pub entry : ℕ
entry = 6

-- "7, line: target is a steering segment"
abbrev pub steering_target : ℕ
steering_target = 7

-- "8, line: fifth target"
abbrev pub target_count : ℕ
target_count = 8

-- "9, mux's number: start not valid; first multiplexer met"
abbrev pub start : ℕ
start = 9

-- "10, count: planner: over 6 steering bits"
abbrev pub steering_count : ℕ
steering_count = 10

-- "11, 0: planner: no valid plan of at most 16 operations"
abbrev pub no_plan : ℕ
no_plan = 11

-- "12, 11664: search space below 11,664 entries of 16 bits"
abbrev pub search_space : ℕ
search_space = 12

-- "13, bytes needed: buffer for plan, TMS or TDI too short"
abbrev pub buffer : ℕ
buffer = 13

-- "14, line: plan: line form wrong, or line 17; place 0: text too long"
abbrev pub plan_form : ℕ
plan_form = 14

-- "15, operation: count of bits is not the path length"
abbrev pub bit_count : ℕ
bit_count = 15

-- "16, operation: configuration after it not valid"
abbrev pub configuration : ℕ
configuration = 16

-- "17, target: not accessed, or not holding its bits; lowest target"
abbrev pub target : ℕ
target = 17

-- document 02, Change 1: "18, at the line .. a RESET whose length is not LEN"
abbrev pub reset_length : ℕ
reset_length = 18

-- document 02, Change 2: "19, at the first offending line, a wrong line form or an empty field, .."
abbrev pub clock_line : ℕ
clock_line = 19
