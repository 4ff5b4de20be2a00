use Rattle.std.proofs.Common.{◌≡◌, ℕ, Bool, true, false, ◌&&◌, ◌||◌, eqb, List, [], ◌∷◌, length, map, ◌/◌, refl, ap, ◌∙◌, rules, tests}
use Rattle.std.specs.List.{list_any}
use Rattle.std.specs.Simd.{first_chunks}
use Rattle.std.proofs.lemmas.Iterator.{YieldsList-from_slice}
use Rattle.std.proofs.lemmas.Iterator.Search.{any_from_yields_List}
use Rattle.model.specs.Reach.{mem}
use Rattle.model.specs.Records.{Ptr, same_ptr}
use Rattle.trace.specs.declared.Member.{Member}
use Rattle.trace.specs.Words.{ptr_of, ptr_at}
use Rattle.trace.proofs.Chunks.{entries-are}
use Rattle.trace.proofs.find.Goals as goal

-- the members' comparison, the base first
abbrev same_entry : Member → List ℕ → Bool
same_entry m e = eqb m.base (ptr_at e 0).base && eqb m.offset (ptr_at e 0).off && eqb m.heap (ptr_at e 0).heap

base_first : (x y z : Bool) → (x && y && z) ≡ (z && x && y)
base_first true true true = refl
base_first true true false = refl
base_first true false true = refl
base_first true false false = refl
base_first false y true = refl
base_first false y false = refl

same_entry-is : (m : Member) (e : List ℕ) → same_entry m e ≡ same_ptr (ptr_of m) (ptr_at e 0)
unfolding same_ptr
same_entry-is m e = base_first (eqb m.base (ptr_at e 0).base) (eqb m.offset (ptr_at e 0).off) (eqb m.heap (ptr_at e 0).heap)

found : (p : Ptr) (test : List ℕ → Bool) → ((e : List ℕ) → test e ≡ same_ptr p (ptr_at e 0)) → (es : List (List ℕ)) → list_any test es ≡ mem same_ptr p (map (λ e. ptr_at e 0) es)
unfolding mem
found p test s [] = refl
found p test s (e ∷ es) = λ j. s e j || found p test s es j

pub returns : goal.returns
returns c =
    let m = c.args.m in
    let w = c.args.members.now in
    let n = length w / 3 in
    let es = first_chunks 3 n w in
    any_from_yields_List (same_entry m) _ _ _ c.any.ensures.ran (YieldsList-from_slice es (c.iter.ensures.rest ∙ c.as_chunks.ensures.front)) (λ x r q k. search (rules, tests))
    ∙ found (ptr_of m) (same_entry m) (same_entry-is m) es
    ∙ ap (mem same_ptr (ptr_of m)) (entries-are n w)
