-- A request as the command that it is. No clause of the top call speaks of these.
use Rattle.std.specs.Prelude.{◌≤◌, length, map, drop, string_bytes, ⊤}
use Rattle.rup_top.specs.declared.words.Request.{Request}
use Rattle.rup_top.specs.declared.words.Request.TheVariants as request
use Rattle.rup_top.specs.Words.{Command, usage, compile, replay, code, run, eval, show, bench, most_size, most_count}
use Rattle.rup_top.specs.Words.{most_lemma_files}

abbrev pub command_seen : Request → Command
command_seen request.Usage = usage
command_seen (request.Compile model lemmas) = compile model.now (map string_bytes lemmas.now)
command_seen (request.Replay model tree size) = replay model.now tree.now size
command_seen (request.Code model tree) = code model.now tree.now
command_seen (request.Run image words) = run image.now (drop 2 (map string_bytes words.now))
command_seen (request.Eval model words) = eval model.now (drop 2 (map string_bytes words.now))
command_seen (request.Show image) = show image.now
command_seen (request.Bench seed count) = bench seed count

-- the words before the arguments are there; a size, a count and the number of lemma files are within their limits
abbrev pub HasPlaces : Request → Type 0
HasPlaces (request.Replay model tree size) = size ≤ most_size
HasPlaces (request.Run image words) = 2 ≤ length words.now
HasPlaces (request.Eval model words) = 2 ≤ length words.now
HasPlaces (request.Compile model lemmas) = length lemmas.now ≤ most_lemma_files
HasPlaces (request.Bench seed count) = (1 ≤ count) × (count ≤ most_count)
HasPlaces request = ⊤
