-- t along a direction is the sum of a part in x and a part in y. So over the corners of a box it is greatest where both
-- parts are, and least where both are; and c is t along the direction turned.
use mathlib.Core.Path.{◌≡◌, sym, ◌∙◌}
use mathlib.Core.Bool.{Bool, ◌&&◌, ◌||◌, and_assoc}
use mathlib.Core.List.{[], ◌∷◌}
use lib.Dec.{T}
use lib.IntN.{ℤ, ◌+ℤ◌, ◌-ℤ◌, ◌*ℤ◌}
use lib.Signed.{lt_z, ◌≤ℤ◌, lt_z_yes, ≤ℤ_refl}
use mir.Facts.{and_yes, yes_and}
use Rattle.integers.specs.Laws.{cond_ind}
use Rattle.integers.specs.Check.{◌:+◌, ◌:≤◌, ◌:<◌, ◌:=◌, :neg, hyp, ◌⊞◌, prove, ring}
use Rattle.integers.specs.Order.{T-iff, min_z, max_z, min-l, min-r, max-l, max-r}
use Rattle.rules.specs.declared.Point.{Point}
use Rattle.rules.specs.declared.Row.{Row}
use Rattle.rules.specs.Plane.{c_at, t_at}
use Rattle.rules.specs.Questions.{beyond_corners}
use Rattle.visits.proofs.Terms.{c_e, t_e}
use Rattle.apart.specs.Turned.{turned}

-- ---------------- a test of m, which is a or b and no easier to pass, is one of both: so of the greater, or the lesser
both_of : (f : ℤ → Bool) (a b m : ℤ) → (T (f m) → T (f a)) → (T (f m) → T (f b)) → (T (f a) → T (f b) → T (f m))
    → f m ≡ (f a && f b)
both_of f a b m h k g =
    T-iff (f m) (f a && f b) (λ t. yes_and (f a) (f b) (h t) (k t))
    (λ t. let s = and_yes (f a) (f b) t in g s.0 s.1)

max-both : (f : ℤ → Bool) → ((x y : ℤ) → x ≤ℤ y → T (f y) → T (f x)) → (a b : ℤ) → f (max_z a b) ≡ (f a && f b)
max-both f down a b =
    both_of f a b (max_z a b) (down a (max_z a b) (max-l a b)) (down b (max_z a b) (max-r a b))
    (λ s t. cond_ind (lt_z a b) b a (λ z. T (f z)) (λ _. t) (λ _. s))

min-both : (f : ℤ → Bool) → ((x y : ℤ) → x ≤ℤ y → T (f x) → T (f y)) → (a b : ℤ) → f (min_z a b) ≡ (f a && f b)
min-both f up a b =
    both_of f a b (min_z a b) (up (min_z a b) a (min-l a b)) (up (min_z a b) b (min-r a b))
    (λ s t. cond_ind (lt_z a b) a b (λ z. T (f z)) (λ _. s) (λ _. t))

-- a test of both in each of its two places is one of all four
all-four : (f : ℤ → ℤ → Bool) (a b m c d n : ℤ)
    → ((y : ℤ) → f m y ≡ (f a y && f b y)) → ((x : ℤ) → f x n ≡ (f x c && f x d))
    → f m n ≡ (f a c && f a d && f b c && f b d)
all-four f a b m c d n p q = p n ∙ (λ i. q a i && q b i) ∙ sym (and_assoc (f a c && f a d) (f b c) (f b d))

-- ---------------- sums of one of a and b and one of c and d
module _ (a b c d : ℤ) where
  -- all are below lo where the greatest is
  below_all : (lo : ℤ)
      → lt_z (max_z a b +ℤ max_z c d) lo
      ≡ (lt_z (a +ℤ c) lo && lt_z (a +ℤ d) lo && lt_z (b +ℤ c) lo && lt_z (b +ℤ d) lo)
  below_all lo =
      all-four (λ x y. lt_z (x +ℤ y) lo) a b (max_z a b) c d (max_z c d)
      (λ y. max-both (λ x. lt_z (x +ℤ y) lo) (λ _ _ h. down h (≤ℤ_refl y)) a b)
      (λ x. max-both (λ y. lt_z (x +ℤ y) lo) (λ _ _ h. down (≤ℤ_refl x) h) c d)
    where
      down : {x y m n : ℤ} → x ≤ℤ m → y ≤ℤ n → T (lt_z (m +ℤ n) lo) → T (lt_z (x +ℤ y) lo)
      down {x} {y} {m} {n} h k t =
          (prove 5 (λ x y m n lo. ((x :≤ m) ∷ (y :≤ n) ∷ (m :+ n :< lo) ∷ [], x :+ y :< lo, hyp 0 ⊞ hyp 1 ⊞ hyp 2)) tt
          x y m n lo h k (lt_z_yes t)).lt

  -- all are above hi where the least is
  above-all : (hi : ℤ)
      → lt_z hi (min_z a b +ℤ min_z c d)
      ≡ (lt_z hi (a +ℤ c) && lt_z hi (a +ℤ d) && lt_z hi (b +ℤ c) && lt_z hi (b +ℤ d))
  above-all hi =
      all-four (λ x y. lt_z hi (x +ℤ y)) a b (min_z a b) c d (min_z c d)
      (λ y. min-both (λ x. lt_z hi (x +ℤ y)) (λ _ _ h. up h (≤ℤ_refl y)) a b)
      (λ x. min-both (λ y. lt_z hi (x +ℤ y)) (λ _ _ h. up (≤ℤ_refl x) h) c d)
    where
      up : {x y m n : ℤ} → m ≤ℤ x → n ≤ℤ y → T (lt_z hi (m +ℤ n)) → T (lt_z hi (x +ℤ y))
      up {x} {y} {m} {n} h k t =
          (prove 5 (λ x y m n hi. ((m :≤ x) ∷ (n :≤ y) ∷ (hi :< m :+ n) ∷ [], hi :< x :+ y, hyp 0 ⊞ hyp 1 ⊞ hyp 2)) tt
          x y m n hi h k (lt_z_yes t)).lt

-- ---------------- the corners of a box
module _ (s v : Point) (q : Row) where
  -- the parts of t along v at the sides of the box of q
  abbrev pub west : ℤ
  west = v.x *ℤ (q.xmin -ℤ s.x)

  abbrev pub east : ℤ
  east = v.x *ℤ (q.xmax -ℤ s.x)

  abbrev pub south : ℤ
  south = v.y *ℤ (q.ymin -ℤ s.y)

  abbrev pub north : ℤ
  north = v.y *ℤ (q.ymax -ℤ s.y)

  -- its greatest and its least at the corners
  abbrev pub greatest : ℤ
  greatest = max_z west east +ℤ max_z south north

  abbrev pub least : ℤ
  least = min_z west east +ℤ min_z south north

  -- t is beyond a range at all four where its greatest or its least there is
  pub by_parts : (lo hi : ℤ) → (lt_z greatest lo || lt_z hi least) ≡ beyond_corners (t_at s v) lo hi q
  unfolding beyond_corners
  by_parts lo hi = λ i. below_all west east south north lo i || above-all west east south north hi i

-- c along u is t along u turned
c-turned : (s u p : Point) → c_at s u p ≡ t_at s (turned u) p
c-turned s u p =
    ring 6 (λ sx sy ux uy px py. c_e sx sy ux uy px py := t_e sx sy (:neg uy) ux px py) tt
    s.x s.y u.x u.y p.x p.y

pub beyond-turned : (s u : Point) (lo hi : ℤ) (q : Row)
    → beyond_corners (c_at s u) lo hi q ≡ beyond_corners (t_at s (turned u)) lo hi q
beyond-turned s u lo hi q = λ i. beyond_corners (λ p. c-turned s u p i) lo hi q
