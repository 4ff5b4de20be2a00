-- What the command program lends its calls: room for its largest heap, and scratch for every alloc of it, whose roots are the
-- sixteen registers.
use Rattle.std.specs.Prelude.{ℕ}
use Rattle.model.specs.Image.{image_length}
use Rattle.model.specs.Calls.{scratch_length}
use Rattle.model.specs.Run.{largest}

unfoldable pub program_words : ℕ
program_words = image_length largest

unfoldable pub program_scratch : ℕ
program_scratch = scratch_length largest 16
