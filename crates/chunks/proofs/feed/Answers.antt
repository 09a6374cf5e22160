-- `feed`: none is fed at first; then one byte more.
use Rattle.records.specs.Holds.{slices_of}
use Rattle.chunks.proofs.Chunk.{fed-none, fed-more}
use Rattle.chunks.proofs.feed.Goals as goal

pub loop-byte-init : goal.loop-byte-init
loop-byte-init c =
    let desk = c.args.desk.now in fed-none desk.state (slices_of desk) c.args.chunk.now c.args.out.now desk.bounds

pub loop-byte-preserved : goal.loop-byte-preserved
loop-byte-preserved c =
    fed-more c.loop-byte.invariant (slices_of c.feed_byte-wrote.new.desk) c.loop-byte-test.true c.feed_byte-wrote.ensures
