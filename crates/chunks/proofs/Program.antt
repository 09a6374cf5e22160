-- A run over the slices writes what the definition says of all that is read, however the input is cut into chunks.
use mathlib.Core.Path.{◌≡◌, ◌∙◌, ap}
use mathlib.Core.List.{List, ◌++◌}
use Prim.Native.Nat.{ℕ}
use Rattle.print.proofs.Writing.{put_front}
use Rattle.desk.specs.Program.{program}
use Rattle.desk.specs.Chunks.{Carry, begun, print_chunk, print_chunks, join_all}
use Rattle.desk.proofs.Chunks.{cut-anyhow}
use Rattle.store.specs.declared.State.{State}
use Rattle.records.specs.Left.{Slices}
use Rattle.byte.specs.Feeds.{carry_of}
use Rattle.chunks.specs.Runs.{Runs, ended, fed}

-- What a run writes is printed chunk after chunk.
run-prints : {s : State} {l : Slices} {chunks : List (List ℕ)} {written : List ℕ} →
    Runs s l chunks written → written ≡ print_chunks (carry_of s l) chunks
unfolding print_chunks
run-prints (ended f) = put_front f.printed
run-prints (fed {s = s} {l = l} {chunk = chunk} {chunks = chunks} f rest) =
    (λ i. put_front f.printed i ++ run-prints rest i)
    ∙ ap (λ (c : Carry). print_chunk (carry_of s l) chunk ++ print_chunks c chunks) f.carried

-- A run that begins opened writes the program's answer to all the bytes read.
pub run-is-program : {s : State} {l : Slices} {chunks : List (List ℕ)} {written : List ℕ} →
    carry_of s l ≡ begun → Runs s l chunks written → written ≡ program (join_all chunks)
run-is-program {chunks = chunks} e run =
    run-prints run ∙ ap (λ (c : Carry). print_chunks c chunks) e ∙ cut-anyhow chunks
