-- What the questions leave in the lent tables: a line is readied by its build, and B only where A stands ready. Which
-- tables are built then, and what it means that one is: to ready its line again changes nothing.
use Rattle.std.specs.Prelude.{◌≡◌, Bool, true, false, cond, ◌&&◌, List, ℤ}
use Rattle.std.proofs.Math.Option.{Option, none, some}
use Rattle.rules.specs.declared.Refusal.{Refusal}
use Rattle.rules.specs.Build.{build_refusal, built_table}
use Rattle.desk.specs.declared.Held.{Held}
use Rattle.desk.specs.Desk.{Store}
use Rattle.ready.specs.declared.Needed.{Needed}
use Rattle.ready.specs.declared.Needed.TheVariants.{NoTable, TableA, BothTables}
use Rattle.ready.specs.declared.TablesBuilt.{TablesBuilt}

-- no refusal
abbrev pub clear : Option Refusal → Bool
clear none = true
clear (some r) = false

-- a line stands ready where it is not under 13 and its build refuses nothing
unfoldable pub is_ready : Store → List ℤ → Bool
is_ready s t = cond s.over false (clear (build_refusal s.points t))

-- readying a line leaves in its table what its build leaves; under 13, what stood there
unfoldable pub table_after : Store → List ℤ → List ℤ
table_after s t = cond s.over t (built_table s.points t)

-- ---- the tables that are needed stand ready
abbrev pub stand_ready : Needed → Store → Store → List ℤ → List ℤ → Bool
stand_ready NoTable a b table_a table_b = true
stand_ready TableA a b table_a table_b = is_ready a table_a
stand_ready BothTables a b table_a table_b = is_ready a table_a && is_ready b table_b

-- A's table is readied where it is needed, and B's where A stands ready
abbrev pub first_after : Needed → Store → List ℤ → List ℤ
first_after NoTable a table_a = table_a
first_after TableA a table_a = table_after a table_a
first_after BothTables a table_a = table_after a table_a

abbrev pub second_after : Needed → Store → Store → List ℤ → List ℤ → List ℤ
second_after NoTable a b table_a table_b = table_b
second_after TableA a b table_a table_b = table_b
second_after BothTables a b table_a table_b = cond (is_ready a table_a) (table_after b table_b) table_b

-- ---- which tables are built: A's is where it was needed and stands ready, B's where A stands ready and it does too
abbrev pub built_of : Held → Held → TablesBuilt
built_of a b = record { a = a.built; b = b.built }

abbrev pub built_after : Needed → TablesBuilt → Store → Store → List ℤ → List ℤ → TablesBuilt
built_after NoTable k a b table_a table_b = k
built_after TableA k a b table_a table_b = record { a = is_ready a table_a; b = k.b }
built_after BothTables k a b table_a table_b =
    record { a = is_ready a table_a; b = cond (is_ready a table_a) (is_ready b table_b) k.b }

-- ---- a line stays ready: to ready it again refuses nothing, and leaves its table as it is
pub record StaysReady (s : Store) (t : List ℤ) : Type 0 where
  pub ready : is_ready s t ≡ true
  pub same : table_after s t ≡ t

-- a line whose table is built stays ready
abbrev pub AsBuilt : Bool → Store → List ℤ → Type 0
AsBuilt built s t = built ≡ true → StaysReady s t
