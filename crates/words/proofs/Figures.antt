-- Examples of the definitions, by computation and under one theorem: texts that are records, and texts that are not.
use mathlib.Core.Path.{◌≡◌, refl}
use mathlib.Core.List.{List, [], ◌∷◌}
use Prim.Native.Char.{code}
use Prim.Native.Nat.{ℕ}
use Prim.Native.String as string
use Prim.Native.String.{String}
use lib.IntN.{pos, negsuc}
use Rattle.rules.specs.declared.Line.TheVariants.{LineA, LineB}
use Rattle.numerals.specs.Numerals.{all_digits, value_from, numeral}
use Rattle.words.specs.declared.Record.{Record}
use Rattle.words.specs.declared.Record.TheVariants.{Start, Pt, Near, In, Meet, Agree, NotUnderstood}
use Rattle.words.specs.Fields.{fields, same_bytes}
use Rattle.words.specs.Records.{is, record_of}

abbrev bytes : String → List ℕ
bytes string.[] = []
bytes (string.◌∷◌ c s) = code c ∷ bytes s

abbrev read : String → Record
read text = record_of (bytes text)

pub texts-read :
    (read "LINE\tA" ≡ Start LineA)
    × (read "LINE\tB" ≡ Start LineB)
    × (read "PT\t4\t3" ≡ Pt (pos 4) (pos 3))
    × (read "PT\t0\t-7" ≡ Pt (pos 0) (negsuc 6))
    × (read "NEAR\t4\t5\t2\t10" ≡ Near (pos 4) (pos 5) (pos 2) 10)
    × (read "IN\t2\t-2\t0" ≡ In (pos 2) (negsuc 1) 0)
    × (read "MEET\t9" ≡ Meet 9)
    × (read "AGREE\t2\t10" ≡ Agree (pos 2) 10)
    × (read "PT\t-2147483648\t2147483647" ≡ Pt (negsuc 2147483647) (pos 2147483647))  -- the least and the greatest
    × (read "PT\t-2147483649\t0" ≡ NotUnderstood)
    × (read "PT\t0\t2147483648" ≡ NotUnderstood)
    × (read "MEET\t4294967295" ≡ Meet 4294967295)
    × (read "MEET\t4294967296" ≡ NotUnderstood)
    × (read "MEET\t-1" ≡ NotUnderstood)
    × (read "MEET\t10000000000" ≡ NotUnderstood)  -- 11 digits
    × (read "NEAR\t-0\t5\t2\t10" ≡ NotUnderstood)
    × (read "PT\t04\t3" ≡ NotUnderstood)
    × (read "PT\t+4\t3" ≡ NotUnderstood)
    × (read "PT\t\t3" ≡ NotUnderstood)
    × (read "PT\t-\t3" ≡ NotUnderstood)
    × (read "PT\t4\t3\t" ≡ NotUnderstood)  -- a field too many
    × (read "PT\t4" ≡ NotUnderstood)
    × (read "PT 4 3" ≡ NotUnderstood)
    × (read "pt\t4\t3" ≡ NotUnderstood)
    × (read "PTS\t4\t3" ≡ NotUnderstood)
    × (read "LINE\tC" ≡ NotUnderstood)
    × (read "LINE\tA\r" ≡ NotUnderstood)
    × (read "" ≡ NotUnderstood)
unfolding record_of is fields same_bytes numeral all_digits value_from
texts-read = (
  refl,
  refl,
  refl,
  refl,
  refl,
  refl,
  refl,
  refl,
  refl,
  refl,
  refl,
  refl,
  refl,
  refl,
  refl,
  refl,
  refl,
  refl,
  refl,
  refl,
  refl,
  refl,
  refl,
  refl,
  refl,
  refl,
  refl,
  refl,
)
