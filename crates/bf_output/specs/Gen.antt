-- The command `gen`: a stream that a number gives.
use Rattle.std.specs.Prelude.{ℕ, List}
use Rattle.bf_gen.specs.Streams.{stream}
use Rattle.bf_words.specs.declared.request.Request.{Request}
use Rattle.bf_output.specs.declared.status.Status.TheVariants as status
use Rattle.bf_output.specs.Told.{Told}

-- the stream of NUMBER and COUNT
abbrev pub made_stream : Request → List ℕ
made_stream request = stream request.number request.count

abbrev pub generated : Request → Told
generated request = record { status = status.Done; text = made_stream request }
