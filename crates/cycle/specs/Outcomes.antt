-- The code's answers as turns, and what the two functions of the cycle ask and promise.
use Rattle.std.specs.Prelude.{◌≡◌, Result, Bool, false, ◌&&◌, not, List, ℕ, ◌*◌, ◌/◌, ◌≤◌, ◌<◌, eqb, length, get_or, drop}
use Rattle.model.specs.Res.{Res}
use Rattle.model.specs.Records.{whole}
use Rattle.model.specs.Heap.{Sizes, Heap}
use Rattle.model.specs.Image.{image_length, decode}
use Rattle.model.specs.Calls.{scratch_length}
use Rattle.theorems.specs.Fit.{Image}
use Rattle.theorems.specs.Does.{Does}
use Rattle.question.specs.Question.{answer}
use Rattle.question.specs.declared.Question.{Question}
use Rattle.nursery.specs.declared.Collected.{Collected}
use Rattle.pointers.specs.Steps.{moves_in}
use Rattle.cycle.specs.declared.turns.Request.{Request}
use Rattle.cycle.specs.declared.turns.Request.TheVariants.{New, Move}
use Rattle.cycle.specs.declared.turns.Gave.{Gave}
use Rattle.cycle.specs.declared.turns.Work.{Work}
use Rattle.cycle.specs.Scratch.{bases_at, old_list_at, young_in, Saved, Front}
use Rattle.cycle.specs.Turns.{Turn, pick}

-- the moves stand in scratch
unfoldable pub gave_turn : Sizes → ℕ → List ℕ → Gave → Turn
gave_turn z r s g = record { ptr = whole g.heap g.base; visits = g.visits; moves = moves_in g.moved (drop (image_length z) s) (drop (bases_at z r) s); sweeps = g.elder.collections; entered = g.elder.visits }

abbrev pub outcome_answer : Sizes → ℕ → List ℕ → Result Gave Question → Res Turn
outcome_answer z r s o = answer (gave_turn z r s) o

-- nothing was moved: whatever stands in scratch
pub record Gives (step : Heap → Res (Turn × Heap)) (w : List ℕ) (o : Result Gave Question) (v : List ℕ) : Type 0 where
  pub does : (z : Sizes) (r : ℕ) (s : List ℕ) → Does step w (outcome_answer z r s o) v

-- what the small functions make

unfoldable pub gave_at : ℕ → ℕ → Gave
gave_at heap base = record { heap = heap; base = base; moved = 0; visits = 0; elder = record { collections = 0; visits = 0 } }

unfoldable pub swept_gave : Gave → ℕ → Gave
swept_gave g v = record { heap = g.heap; base = g.base; moved = g.moved; visits = g.visits; elder = record { collections = 1; visits = v } }

unfoldable pub finished_gave : Gave → Collected → Work → Gave
finished_gave g c elder = record { heap = g.heap; base = g.base; moved = c.survivors; visits = c.visits; elder = elder }

-- a new array has cells; a part that is moved has, too
abbrev pub Asked : Request → Sizes → List ℕ → Type 0
Asked (New a) z s = 0 < a
Asked (Move b) z s = 0 < get_or (young_in z s).lens b 0

-- What the cycle asks: an image, roots within bounds, scratch long enough with a nursery saved in front. At first the saved nursery's lengths are the
-- image's.
pub record Ready (w roots s : List ℕ) (what : Request) (left : ℕ) (collected : Bool) : Type 0 where
  pub image : Image w (decode w)
  pub few : length roots ≤ 3 * 4096
  pub room : scratch_length (decode w).size (length roots / 3) ≤ length s
  pub saved : Saved (decode w).size s
  pub asked : Asked what (decode w).size s
  pub last : left ≤ 2
  pub some : 1 ≤ left
  pub first : left ≡ 2 → collected ≡ false → (young_in (decode w).size s).lens ≡ (decode w).young.lens

-- how many words of scratch stay: the saved image; the survivors and their new bases too, unless they are made now
unfoldable pub kept_to : Sizes → ℕ → ℕ → Bool → ℕ
kept_to z r left collected = pick (not collected && not (eqb left 1)) (image_length z) (old_list_at z r)

-- what it promises
pub record Ran (step : Heap → Res (Turn × Heap)) (left : ℕ) (collected : Bool) (w roots s : List ℕ) (o : Result Gave Question) (v s' : List ℕ) : Type 0 where
  pub does : Does step w (outcome_answer (decode w).size (length roots / 3) s' o) v
  pub front : Front (kept_to (decode w).size (length roots / 3) left collected) s s'
