-- Laws of filling a slot: nothing, one setting, one more; all that n choices lead to; all that leaves a setting.
-- Assumes nothing.
use mathlib.Core.Path.{◌≡◌, refl, sym, ap, ◌∙◌}
use mathlib.Core.Bool.{Bool, true, false, ◌&&◌, ◌||◌}
use mathlib.Core.Logic.{◌⊎◌, inl, inr}
use mathlib.Core.List.{List}
use Prim.Native.Nat.{ℕ, ◌+◌, ◌*◌, ◌/◌, ◌%◌, ◌≤◌, ◌<◌}
use native.Mathlib.Omega.{arith}
use native.Mathlib.Decide.{dec_lt}
use borrow.Author.Tests.{eq-eqb, ne_eqb, eqb-true, eqb-false, lt-ltb}
use lib.Bits.{bit_or}
use lib.Dec.{eqb, ltb}
use lib.ListN.{length, get_or, set, length-set}
use lib.Seq.{get_or-set_same, get_or-set_other}
use Rattle.model.specs.Network.{Network}
use Rattle.model.proofs.Lists.{or_left, or_right, and_both, and_parts, or_false_right}
use Rattle.network_words.specs.Words.{word_bit}
use Rattle.network_words.proofs.WordTests.{word_bit_or}
use Rattle.planner_theory.specs.Moves.{count, gain, land}
use Rattle.planner_table.specs.Sets.{Joined}
use Rattle.planner_table.specs.Table.{in_slot, in_seen, OutOfSlot}
use Rattle.planner_forward.specs.Goals.{SetsIn}
use Rattle.planner_forward.specs.Spreading.{Spread, AtSetting, Arrives, Leaves}
use Rattle.planner_table.proofs.SetLaws.{or_cases, together_small}

-- ---- one after the other

pub spread_more : (P Q R : ℕ → Type 0) (i : ℕ) (tab seen tab' seen' tab'' seen'' : List ℕ) → ((s : ℕ) → R s → P s ⊎ Q s) → ((s : ℕ) → P s → R s) → ((s : ℕ) → Q s → R s)
    → Spread P i tab seen tab' seen' → Spread Q i tab' seen' tab'' seen'' → Spread R i tab seen tab'' seen''
spread_more P Q R i tab seen tab' seen' tab'' seen'' parts first second p q = record {
  came = λ s e. came s (q.came s e);
  covers = λ s r. covers s (parts s r);
  met = λ s e. met s (q.met s e);
  seen_kept = λ s e. q.seen_kept s (p.seen_kept s e);
  slot_kept = λ s e. q.slot_kept s (p.slot_kept s e);
  only = record { others = λ n o. q.only.others n o ∙ p.only.others n o; size = q.only.size ∙ p.only.size };
  seen_size = q.seen_size;
}
  where
    came : (s : ℕ) → (in_slot tab' i s ≡ true) ⊎ Q s → (in_slot tab i s ≡ true) ⊎ R s
    came s (inr b) = inr (second s b)
    came s (inl e) = by (p.came s e)
      where
        by : (in_slot tab i s ≡ true) ⊎ P s → (in_slot tab i s ≡ true) ⊎ R s
        by (inl f) = inl f
        by (inr a) = inr (first s a)

    covers : (s : ℕ) → P s ⊎ Q s → in_seen seen'' s ≡ true
    covers s (inl a) = q.seen_kept s (p.covers s a)
    covers s (inr b) = q.covers s b

    met : (s : ℕ) → (in_seen seen' s ≡ true) ⊎ (in_slot tab'' i s ≡ true) → (in_seen seen s ≡ true) ⊎ (in_slot tab'' i s ≡ true)
    met s (inr f) = inr f
    met s (inl e) = by (p.met s e)
      where
        by : (in_seen seen s ≡ true) ⊎ (in_slot tab' i s ≡ true) → (in_seen seen s ≡ true) ⊎ (in_slot tab'' i s ≡ true)
        by (inl f) = inl f
        by (inr f) = inr (q.slot_kept s f)

-- the same states, told otherwise
pub spread_as : (P R : ℕ → Type 0) (i : ℕ) (tab seen tab' seen' : List ℕ) → ((s : ℕ) → P s → R s) → ((s : ℕ) → R s → P s) → Spread P i tab seen tab' seen' → Spread R i tab seen tab' seen'
spread_as P R i tab seen tab' seen' to from p = record {
  came = λ s e. came s (p.came s e);
  covers = λ s r. p.covers s (from s r);
  met = p.met;
  seen_kept = p.seen_kept;
  slot_kept = p.slot_kept;
  only = p.only;
  seen_size = p.seen_size;
}
  where
    came : (s : ℕ) → (in_slot tab i s ≡ true) ⊎ P s → (in_slot tab i s ≡ true) ⊎ R s
    came s (inl e) = inl e
    came s (inr a) = inr (to s a)

-- ---- the sets got at one setting

-- a word with the bits of v besides
word_joined : (l : List ℕ) (j v k b : ℕ) → j < length l → word_bit (get_or (set l j (bit_or (get_or l j 0) v)) k 0) b ≡ (word_bit (get_or l k 0) b || (eqb j k && word_bit v b))
word_joined l j v k b lt = by (eqb j k) refl
  where
    by : (t : Bool) → eqb j k ≡ t → word_bit (get_or (set l j (bit_or (get_or l j 0) v)) k 0) b ≡ (word_bit (get_or l k 0) b || (t && word_bit v b))
    by true e = rw (← (eqb-true j k e), get_or-set_same l j (bit_or (get_or l j 0) v) 0 lt) (word_bit_or (get_or l j 0) v b)
    by false e = rw (get_or-set_other l j k (bit_or (get_or l j 0) v) 0 (λ z. eqb-false j k e (sym z))) (sym (or_false_right (word_bit (get_or l k 0) b)))

-- all of them were met there
pub arrive_met : (i y got : ℕ) (tab seen : List ℕ) → length seen ≡ 729 → bit_or (get_or seen y 0) got ≡ get_or seen y 0 → Spread (AtSetting y got) i tab seen tab seen
arrive_met i y got tab seen size same = record {
  came = λ s e. inl e;
  covers = covers;
  met = λ s e. inl e;
  seen_kept = λ s e. e;
  slot_kept = λ s e. e;
  only = record { others = λ n o. refl; size = refl };
  seen_size = size;
}
  where
    covers : (s : ℕ) → AtSetting y got s → in_seen seen s ≡ true
    covers s a =
        ap (λ (n : ℕ). word_bit (get_or seen n 0) (s % 16)) a.setting
        ∙ ap (λ (w : ℕ). word_bit w (s % 16)) (sym same) ∙ word_bit_or (get_or seen y 0) got (s % 16) ∙ or_right (word_bit (get_or seen y 0) (s % 16)) (word_bit got (s % 16)) a.is

module _ (i y got : ℕ) (tab seen : List ℕ) (room : 11664 ≤ length tab) (size : length seen ≡ 729) (y-small : y < 729) (i-small : i < 16) where
  abbrev tab' : List ℕ
  tab' = set tab (i * 729 + y) (bit_or (get_or tab (i * 729 + y) 0) got)

  abbrev seen' : List ℕ
  seen' = set seen y (bit_or (get_or seen y 0) got)

  abbrev here : ℕ → Bool
  here s = eqb y (s / 16) && word_bit got (s % 16)

  seen_is : (s : ℕ) → in_seen seen' s ≡ (in_seen seen s || here s)
  seen_is s = word_joined seen y got (s / 16) (s % 16) (omega arith)

  slot_is : (s : ℕ) → word_bit (get_or tab' (i * 729 + s / 16) 0) (s % 16) ≡ (word_bit (get_or tab (i * 729 + s / 16) 0) (s % 16) || here s)
  slot_is s = word_joined tab (i * 729 + y) got (i * 729 + s / 16) (s % 16) (omega arith) ∙ ap (λ (t : Bool). word_bit (get_or tab (i * 729 + s / 16) 0) (s % 16) || (t && word_bit got (s % 16))) (same (eqb y (s / 16)) refl)
    where
      same : (t : Bool) → eqb y (s / 16) ≡ t → eqb (i * 729 + y) (i * 729 + s / 16) ≡ t
      same true e = let z = eqb-true y (s / 16) e in eq-eqb (i * 729 + y) (i * 729 + s / 16) (omega arith)
      same false e = let z = eqb-false y (s / 16) e in ne_eqb (i * 729 + y) (i * 729 + s / 16) (λ w. z (omega arith))

  here_is : (s : ℕ) → here s ≡ true → AtSetting y got s
  here_is s e = let b = and_parts (eqb y (s / 16)) (word_bit got (s % 16)) e in record { setting = sym (eqb-true y (s / 16) b.0); is = b.1 }

  is_here : (s : ℕ) → AtSetting y got s → here s ≡ true
  is_here s a = and_both (eqb y (s / 16)) (word_bit got (s % 16)) (eq-eqb y (s / 16) (sym a.setting)) a.is

  pub arrive_new : Spread (AtSetting y got) i tab seen tab' seen'
  arrive_new = record {
    came = came;
    covers = λ s a. seen_is s ∙ or_right (in_seen seen s) (here s) (is_here s a);
    met = met;
    seen_kept = λ s e. seen_is s ∙ or_left (in_seen seen s) (here s) e;
    slot_kept = slot_kept;
    only = record {
      others = λ n o. get_or-set_other tab (i * 729 + y) n (bit_or (get_or tab (i * 729 + y) 0) got) 0 (away n o);
      size = length-set tab (i * 729 + y) (bit_or (get_or tab (i * 729 + y) 0) got);
    };
    seen_size = length-set seen y (bit_or (get_or seen y 0) got) ∙ size;
  }
    where
      came : (s : ℕ) → in_slot tab' i s ≡ true → (in_slot tab i s ≡ true) ⊎ AtSetting y got s
      came s e =
          let b = and_parts (ltb s 11664) (word_bit (get_or tab' (i * 729 + s / 16) 0) (s % 16)) e in
          by b.0 (or_cases (word_bit (get_or tab (i * 729 + s / 16) 0) (s % 16)) (here s) (sym (slot_is s) ∙ b.1))
        where
          by : ltb s 11664 ≡ true → (word_bit (get_or tab (i * 729 + s / 16) 0) (s % 16) ≡ true) ⊎ (here s ≡ true) → (in_slot tab i s ≡ true) ⊎ AtSetting y got s
          by l (inl f) = inl (and_both (ltb s 11664) (word_bit (get_or tab (i * 729 + s / 16) 0) (s % 16)) l f)
          by l (inr f) = inr (here_is s f)

      met : (s : ℕ) → in_seen seen' s ≡ true → (in_seen seen s ≡ true) ⊎ (in_slot tab' i s ≡ true)
      met s e = by (or_cases (in_seen seen s) (here s) (sym (seen_is s) ∙ e))
        where
          by : (in_seen seen s ≡ true) ⊎ (here s ≡ true) → (in_seen seen s ≡ true) ⊎ (in_slot tab' i s ≡ true)
          by (inl f) = inl f
          by (inr f) =
              let a = (here_is s f).setting in
              inr (and_both (ltb s 11664) (word_bit (get_or tab' (i * 729 + s / 16) 0) (s % 16)) (lt-ltb s 11664 (omega arith))
              (slot_is s ∙ or_right (word_bit (get_or tab (i * 729 + s / 16) 0) (s % 16)) (here s) f))

      slot_kept : (s : ℕ) → in_slot tab i s ≡ true → in_slot tab' i s ≡ true
      slot_kept s e =
          let b = and_parts (ltb s 11664) (word_bit (get_or tab (i * 729 + s / 16) 0) (s % 16)) e in
          and_both (ltb s 11664) (word_bit (get_or tab' (i * 729 + s / 16) 0) (s % 16)) b.0 (slot_is s ∙ or_left (word_bit (get_or tab (i * 729 + s / 16) 0) (s % 16)) (here s) b.1)

      away : (n : ℕ) → OutOfSlot i n → n ≡ i * 729 + y → ⊥
      away n (inl lt) z = omega arith
      away n (inr le) z = omega arith

-- ---- all that leaves setting x

module _ (net : Network) (x sets n g got : ℕ) (lands : List ℕ) (count_is : n ≡ count net x) (lands_are : (c : ℕ) → c < n → get_or lands c 0 ≡ land net x c)
    (gain_is : g ≡ gain net x) (small : g < 16) (joined : Joined sets g got) where
  leaves : (s : ℕ) → Arrives lands n got s → Leaves net x sets s
  leaves s a =
      let b = joined.from (s % 16) (omega arith) a.there.is in
      record {
        before = b.from;
        small = b.small;
        is = b.is;
        choice = a.choice;
        within = omega (arith, a.within);
        to_is =
            let there : s / 16 ≡ land net x a.choice = a.there.setting ∙ lands_are a.choice a.within in
            let got-is : bit_or b.from (gain net x) ≡ s % 16 = ap (bit_or b.from) (sym gain_is) ∙ b.makes in
            omega arith;
      }

  arrives : (s : ℕ) → Leaves net x sets s → Arrives lands n got s
  arrives s a =
      let less : bit_or a.before g < 16 = together_small a.before g a.small small in
      let is : land net x a.choice * 16 + bit_or a.before g ≡ s = ap (λ (m : ℕ). land net x a.choice * 16 + bit_or a.before m) gain_is ∙ a.to_is in
      let there : land net x a.choice ≡ s / 16 = omega arith in
      let rest : bit_or a.before g ≡ s % 16 = omega arith in
      let within : a.choice < n = omega (arith, a.within) in
      record {
        choice = a.choice;
        within = within;
        there = record { setting = sym (lands_are a.choice within ∙ there); is = ap (word_bit got) (sym rest) ∙ joined.has a.before a.small a.is };
      }

  -- their sets are those got
  pub leaving_sets : SetsIn (Leaves net x sets) got
  leaving_sets s a = (arrives s a).there.is

  pub spread_leaving : (i : ℕ) (tab seen tab' seen' : List ℕ) → Spread (Arrives lands n got) i tab seen tab' seen' → Spread (Leaves net x sets) i tab seen tab' seen'
  spread_leaving i tab seen tab' seen' = spread_as (Arrives lands n got) (Leaves net x sets) i tab seen tab' seen' leaves arrives
