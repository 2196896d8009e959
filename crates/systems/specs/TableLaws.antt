-- What accepted numbers of a table are: its walk is within the bounds, and its labels within the counts. Here and not in proofs/, since the implementation cites it.
use Rattle.std.specs.Prelude.{◌≡◌, ℕ, zero, suc, ◌+◌, ◌*◌, ◌<◌, ◌≤◌, Bool, true, false, cond, not, ◌&&◌, length, is_some, Some, None, Option, nat_le, nat_lt, slice_index, refl}
use Rattle.std.proofs.Common.{arith}
use Rattle.std.specs.Option.{option_map, option_or}
use Rattle.std.proofs.lemmas.Bool.{ltb-true, ltb-false, leb-true, leb-false, eqb-true, and_parts, not-false}
use Rattle.std.proofs.lemmas.Nat.{mul-add-lt, mul-le}
use Rattle.walk.specs.Walks.{Bounds}
use Rattle.protection.specs.declared.permission.Permission.{Permission}
use Rattle.protection.specs.Systems.{Counts}
use Rattle.protection.specs.Lowest.{lowest}
use Rattle.protection.specs.Refusals.{refused}
use Rattle.protection.proofs.LowestLaws.{lowest_none}
use Rattle.systems.specs.Refusals.{refused_at}
use Rattle.systems.specs.TableRefusing.{CountBounds, LengthsMatch}
use Rattle.systems.specs.Tables.{Table, accepts, refusal, counts_out, lengths_out, label_out, entry_out, permission_at, table_walk, table_labels, table_step, table_label, next_of}

-- each test of the refusals fails
pub record Accepted (t : Table) : Type 0 where
  pub counts : counts_out t.states t.moves t.objects t.rights ≡ false
  pub lengths : lengths_out t.states t.moves (length t.labels) (length t.entries) ≡ false
  pub starts : nat_le t.states t.start ≡ false
  pub labelled : lowest (label_out t.objects t.rights t.labels) t.moves ≡ None
  pub entered : lowest (entry_out t.states t.entries) (length t.entries) ≡ None

none_by : (a b c : Bool) (l e : Option ℕ)
    → not (is_some (cond a (Some (refused 40)) (cond b (Some (refused 41)) (cond c (Some (refused 42)) (option_or (option_map (refused_at 43) l) (option_map (refused_at 44) e)))))) ≡ true
    → (a ≡ false) × (b ≡ false) × (c ≡ false) × (l ≡ None) × (e ≡ None)
none_by true b c l e bad = let z : ◌≡◌ {A = ℕ} 0 1 = cc in absurd (omega arith)
none_by false true c l e bad = let z : ◌≡◌ {A = ℕ} 0 1 = cc in absurd (omega arith)
none_by false false true l e bad = let z : ◌≡◌ {A = ℕ} 0 1 = cc in absurd (omega arith)
none_by false false false (Some m) e bad = let z : ◌≡◌ {A = ℕ} 0 1 = cc in absurd (omega arith)
none_by false false false None (Some k) bad = let z : ◌≡◌ {A = ℕ} 0 1 = cc in absurd (omega arith)
none_by false false false None None ok = (refl, refl, refl, refl, refl)

pub accepted_parts : (t : Table) → accepts t ≡ true → Accepted t
unfolding refusal
accepted_parts t ok =
    let p = none_by _ _ _ _ _ ok in
    record { counts = p.0; lengths = p.1; starts = p.2; labelled = p.3; entered = p.4 }

-- the bounds of the counts
pub count_bounds : (n m o r : ℕ) → counts_out n m o r ≡ false → CountBounds n m o r
count_bounds n m o r ok =
    let a = and_parts _ _ (not-false _ ok) in
    let b = and_parts _ _ a.0 in
    let c = and_parts _ _ b.0 in
    let d = and_parts _ _ c.0 in
    record {
      nonempty = leb-true _ _ d.0;
      most_states = leb-true _ _ d.1;
      most_moves = leb-true _ _ c.1;
      most_objects = leb-true _ _ b.1;
      most_rights = leb-true _ _ a.1;
    }

pub lengths_match : (n m ls es : ℕ) → lengths_out n m ls es ≡ false → LengthsMatch n m ls es
lengths_match n m ls es ok =
    let a = and_parts _ _ (not-false _ ok) in
    record { labels_match = eqb-true _ _ a.0; entries_match = eqb-true _ _ a.1 }

-- the place of an entry
pub place_in : (t : Table) → accepts t ≡ true → (s m : ℕ) → s < t.states → m < t.moves → s * t.moves + m < length t.entries
place_in t ok s m hs hm =
    let a = accepted_parts t ok in
    let l = lengths_match t.states t.moves (length t.labels) (length t.entries) a.lengths in
    omega (arith, mul-add-lt s t.moves m t.states hs hm, l.entries_match)

-- the entries of an accepted table are few: no more than the most states, each with the most moves
pub place_fits : (t : Table) → accepts t ≡ true → length t.entries ≤ 1048576 * 4096
place_fits t ok =
    let a = accepted_parts t ok in
    let l = lengths_match t.states t.moves (length t.labels) (length t.entries) a.lengths in
    let b = count_bounds t.states t.moves t.objects t.rights a.counts in
    omega (arith, mul-le t.states t.moves 1048576 4096 b.most_states b.most_moves, l.entries_match)

-- the same of numbers that pass the tests of the counts and of the lengths alone
pub entries_few : (n m o r ls es : ℕ) → counts_out n m o r ≡ false → lengths_out n m ls es ≡ false → es ≤ 1048576 * 4096
entries_few n m o r ls es counts lengths =
    let l = lengths_match n m ls es lengths in
    let b = count_bounds n m o r counts in
    omega (arith, mul-le n m 1048576 4096 b.most_states b.most_moves)

-- the tests of a step
step_tests : (t : Table) (s m u : ℕ) → table_step t s m ≡ Some u
    → (s < t.states) × (m < t.moves) × (next_of (slice_index t.entries (s * t.moves + m)) ≡ Some u)
step_tests t s m u e = go (nat_lt s t.states) (nat_lt m t.moves) refl refl e
  where
    go : (a b : Bool) → nat_lt s t.states ≡ a → nat_lt m t.moves ≡ b
        → cond (a && b) (next_of (slice_index t.entries (s * t.moves + m))) None ≡ Some u
        → (s < t.states) × (m < t.moves) × (next_of (slice_index t.entries (s * t.moves + m)) ≡ Some u)
    go true true p q h = (ltb-true _ _ p, ltb-true _ _ q, h)
    go true false p q bad = let z : ◌≡◌ {A = ℕ} 0 1 = cc in absurd (omega arith)
    go false b p q bad = let z : ◌≡◌ {A = ℕ} 0 1 = cc in absurd (omega arith)

next_is : (x u : ℕ) → next_of x ≡ Some u → x ≡ suc u
next_is zero u bad = let z : ◌≡◌ {A = ℕ} 0 1 = cc in absurd (omega arith)
next_is (suc v) u e = cc

pub table_bounds : (t : Table) → accepts t ≡ true → Bounds (table_walk t)
table_bounds t ok =
    let a = accepted_parts t ok in
    let b = count_bounds t.states t.moves t.objects t.rights a.counts in
    record {
      states_some = b.nonempty;
      states_few = b.most_states;
      start_below = leb-false _ _ a.starts;
      moves_few = b.most_moves;
      from_below = λ s m u e. (step_tests t s m u e).0;
      move_below = λ s m u e. (step_tests t s m u e).1;
      to_below = λ s m u e.
          let h = step_tests t s m u e in
          let low = ltb-false _ _ (lowest_none _ _ _ a.entered (place_in t ok s m h.0 h.1)) in
          omega (arith, low, next_is _ _ h.2);
    }

label_tests : (t : Table) (m : ℕ) (p : Permission) → table_label t m ≡ Some p → (m < t.moves) × (permission_at t.labels m ≡ p)
label_tests t m p e = go (nat_lt m t.moves) refl e
  where
    go : (a : Bool) → nat_lt m t.moves ≡ a → cond a (Some (permission_at t.labels m)) None ≡ Some p
        → (m < t.moves) × (permission_at t.labels m ≡ p)
    go true q h = (ltb-true _ _ q, cc)
    go false q bad = let z : ◌≡◌ {A = ℕ} 0 1 = cc in absurd (omega arith)

pub table_counts : (t : Table) → accepts t ≡ true → Counts (table_labels t)
table_counts t ok =
    let a = accepted_parts t ok in
    let b = count_bounds t.states t.moves t.objects t.rights a.counts in
    record {
      objects_few = b.most_objects;
      rights_few = b.most_rights;
      label_within = λ m p e.
          let h = label_tests t m p e in
          rw (← h.1) (not-false _ (lowest_none _ _ _ a.labelled h.0));
    }
