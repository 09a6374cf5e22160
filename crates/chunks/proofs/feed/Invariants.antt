-- `feed`: before each round the first bytes are fed, byte behind byte.
use Rattle.records.specs.Holds.{slices_of}
use Rattle.byte.specs.Feeds.{fed}
use Rattle.chunks.proofs.Chunk.{FedFirst}
use Rattle.chunks.proofs.feed.Given as goal

abbrev pub invariant-loop-byte : goal.invariant-loop-byte
invariant-loop-byte l =
    let s = l.initial in
    FedFirst s.desk.state (slices_of s.desk) l.chunk s.out l.byte-index (fed l.desk.state l.wrote) (slices_of l.desk) l.out
