-- What is readied allows one outcome alone: the question goes on, or one thing is told; which tables are built then,
-- and what is left in them.
use mathlib.Core.Path.{◌≡◌, refl, sym, ◌∙◌, ap}
use mathlib.Core.Bool.{true≢false}
use mathlib.Core.List.{List}
use Prim.Native.Nat.{ℕ}
use lib.IntN.{ℤ}
use Rattle.std.specs.Prelude.{Result, Ok, Err, is_ok}
use Rattle.rules.specs.declared.Line.TheVariants.{NoLine}
use Rattle.rules.specs.declared.Reply.{Reply}
use Rattle.desk.specs.Desk.{Store, refused_at}
use Rattle.ready.specs.declared.Needed.{Needed}
use Rattle.ready.specs.declared.TablesBuilt.{TablesBuilt}
use Rattle.ready.specs.declared.Prepared.{Prepared}
use Rattle.ready.specs.Readied.{readied_reply, Readies}

-- two outcomes that go on alike, and that make the same of a reply, are the same
readied-unique : (a b : Result Unit Reply) (reply : Reply) → is_ok a ≡ is_ok b
    → readied_reply a reply ≡ readied_reply b reply → a ≡ b
readied-unique (Ok one) (Ok other) reply g e = refl
readied-unique (Ok ready) (Err t) reply g e = absurd (true≢false g)
readied-unique (Err s) (Ok ready) reply g e = absurd (true≢false (sym g))
readied-unique (Err s) (Err t) reply g e = ap Err e

pub prepared-unique : {k : Needed} {a b : Store} {place : ℕ} {was : TablesBuilt} {table_a table_b : List ℤ}
    {r r' : Prepared} {left_a left_b left_a' left_b' : List ℤ} → Readies k a b place was table_a table_b r left_a left_b
    → Readies k a b place was table_a table_b r' left_a' left_b' → (r ≡ r') × (left_a ≡ left_a') × (left_b ≡ left_b')
prepared-unique {r = r} {r' = r'} p q =
    let any : Reply = refused_at 12 NoLine 0 in
    let readied = readied-unique r.readied r'.readied any (p.goes ∙ sym q.goes)
    (p.reply (λ _ _. any) ∙ sym (q.reply (λ _ _. any))) in
    let built = p.built ∙ sym q.built in
    ((λ i. record { readied = readied i; built = built i }), p.first ∙ sym q.first, p.second ∙ sym q.second)
