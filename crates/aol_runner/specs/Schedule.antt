-- Schedules of reads and writes, level by level, and the memory after them.
use Rattle.std.specs.Prelude.{◌≡◌, ℕ, ◌+◌, ◌<◌, ◌&&◌, ◌==◌, List, [], ◌∷◌, map, length, slice_get, Option, Some, None, if◌then◌else◌, pos, ◌⊎◌}
use Rattle.std.specs.List.{enumerate_from}
use Rattle.aol_expr_tree.specs.declared.value.Val.{Val}
use Rattle.aol_expr_tree.specs.declared.value.Val.TheVariants.{Num}
use Rattle.aol_flat.specs.Net.{Net, Memory, reads_at, writes_at, IsSettled, IsWritten}
use Rattle.aol_flat.specs.declared.view.Read.{Read}
use Rattle.aol_flat.specs.declared.view.Read.TheVariants.{Cell, Const}

-- an instance's read, by its place among the instance's reads, or its write of one of its outputs
pub data Event : Type 0 where
  Takes : (instance place : ℕ) → Event
  Puts : (instance place : ℕ) → Event

-- what the cells hold, and what each instance took at each of its reads
pub record Machine : Type 0 where
  pub memory : Memory
  pub taken : ℕ → ℕ → Val

-- the value that an instance has for a read with its place: a default number needs no event
abbrev pub value_taken : Machine → ℕ → ℕ × Read → Val
value_taken s j (k, Cell c) = s.taken j k
value_taken s j (k, Const n) = Num n

-- all of them, in order
abbrev pub values_taken : Net → Machine → ℕ → List Val
values_taken net s j = map (value_taken s j) (enumerate_from 0 (reads_at net j))

-- instance j has taken x at its read k
abbrev pub with_taken : Machine → ℕ → ℕ → Val → Machine
with_taken s j k x = record { memory = s.memory; taken = λ i n. if (i == j) && (n == k) then x else s.taken i n }

-- cell c holds x
abbrev pub with_cell : Machine → ℕ → Val → Machine
with_cell s c x = record { memory = λ d. if d == c then x else s.memory d; taken = s.taken }

-- a read takes what its cell holds
abbrev pub takes : Machine → ℕ → ℕ → Option Read → Machine
takes s j k (Some (Cell c)) = with_taken s j k (s.memory c)
takes s j k (Some (Const n)) = s
takes s j k None = s

-- a write puts the value into its cell
abbrev pub puts : Machine → Option ℕ → Option Val → Machine
puts s None x = s
puts s (Some c) None = s
puts s (Some c) (Some x) = with_cell s c x

-- what an event does
abbrev pub happens : Net → Machine → Event → Machine
happens net s (Takes j k) = takes s j k (slice_get (reads_at net j) k)
happens net s (Puts j k) = puts s (slice_get (writes_at net j) k) (slice_get (net.gives j (values_taken net s j)) k)

-- the machine after some events, one after another
abbrev pub after : Net → Machine → List Event → Machine
after net s [] = s
after net s (e ∷ es) = after net (happens net s e) es

-- ---- schedules

-- an event of an instance of the level: its read of a cell, or its write of one of its outputs
abbrev pub IsEventOf : Net → List ℕ → ℕ → Event → Type 0
IsEventOf net levels level (Takes j k) = (slice_get levels j ≡ Some level) × (c : ℕ) × (slice_get (reads_at net j) k ≡ Some (Cell c))
IsEventOf net levels level (Puts j k) = (slice_get levels j ≡ Some level) × (c : ℕ) × (slice_get (writes_at net j) k ≡ Some c)

-- the events of one level, each once, in any order in which the reads of an instance come before its writes
pub record IsLevelSchedule (net : Net) (levels : List ℕ) (level : ℕ) (es : List Event) : Type 0 where
  pub each : (e : Event) → IsEventOf net levels level e → (i : ℕ) × (slice_get es i ≡ Some e)
  pub only : (i : ℕ) (e : Event) → slice_get es i ≡ Some e → IsEventOf net levels level e
  pub once : (i j : ℕ) (e : Event) → slice_get es i ≡ Some e → slice_get es j ≡ Some e → i ≡ j
  pub order : (i j n k l : ℕ) → slice_get es i ≡ Some (Takes n k) → slice_get es j ≡ Some (Puts n l) → i < j

-- one schedule for each level from this one on
abbrev pub AreSchedules : Net → List ℕ → ℕ → List (List Event) → Type 0
AreSchedules net levels level [] = Unit {0}
AreSchedules net levels level (es ∷ rest) = IsLevelSchedule net levels level es × AreSchedules net levels (level + 1) rest

-- the machine after the levels' schedules, one after another
abbrev pub after_levels : Net → Machine → List (List Event) → Machine
after_levels net s [] = s
after_levels net s (es ∷ rest) = after_levels net (after net s es) rest

-- the machine before the first event
abbrev pub start : Memory → Machine
start mem = record { memory = mem; taken = λ j k. Num (pos 0) }

-- each instance's level is above those of the instances whose cells it reads, and below the count; whether a cell is written is known
pub record AreLevelled (net : Net) (levels : List ℕ) (count : ℕ) : Type 0 where
  pub above : (j k c i n l m : ℕ) → slice_get (reads_at net j) k ≡ Some (Cell c) → slice_get (writes_at net i) n ≡ Some c → slice_get levels j ≡ Some l → slice_get levels i ≡ Some m → m < l
  pub level : (j k c : ℕ) → slice_get (writes_at net j) k ≡ Some c → (l : ℕ) × (slice_get levels j ≡ Some l) × (l < count)
  pub known : (c : ℕ) → IsWritten net c ⊎ (IsWritten net c → ⊥)

-- after every schedule each written cell holds what it holds in every settled memory over the opening one, and every other cell what it held
abbrev pub EveryScheduleSettles : Type 0
EveryScheduleSettles =
    (net : Net) (levels : List ℕ) (count : ℕ) → AreLevelled net levels count → (opening mem : Memory) → IsSettled net mem → ((c : ℕ) → (IsWritten net c → ⊥) → mem c ≡ opening c)
    → (by_level : List (List Event)) → length by_level ≡ count → AreSchedules net levels 0 by_level → (c : ℕ) → (after_levels net (start opening) by_level).memory c ≡ mem c

-- ---- a settled memory exists

-- the one instance and place that writes a cell, if there is one; and for as many values as it reads an instance gives one for each cell that it writes
pub record HasWriters (net : Net) (writer : ℕ → Option (ℕ × ℕ)) : Type 0 where
  pub writes : (c j k : ℕ) → writer c ≡ Some (j, k) → slice_get (writes_at net j) k ≡ Some c
  pub one : (c j k : ℕ) → slice_get (writes_at net j) k ≡ Some c → writer c ≡ Some (j, k)
  pub gives : (c j k : ℕ) (xs : List Val) → length xs ≡ length (reads_at net j) → slice_get (writes_at net j) k ≡ Some c → (x : Val) × (slice_get (net.gives j xs) k ≡ Some x)

-- the memory is settled, and what nothing writes is as it was
pub record SettledOver (net : Net) (opening mem : Memory) : Type 0 where
  pub settled : IsSettled net mem
  pub others : (c : ℕ) → (IsWritten net c → ⊥) → mem c ≡ opening c

-- where cells have their writers and instances have levels, there is such a memory
abbrev pub SettledMemoryExists : Type 0
SettledMemoryExists =
    (net : Net) (writer : ℕ → Option (ℕ × ℕ)) (levels : List ℕ) (count : ℕ) → HasWriters net writer → AreLevelled net levels count → (opening : Memory) → (mem : Memory) × SettledOver net opening mem
