-- The members of a collection in words, three to an entry: heap, base, offset.
use Rattle.std.specs.Prelude.{List, [], ◌∷◌, ℕ, zero, suc, ◌+◌, ◌*◌, ◌/◌, length, get_or, set}
use Rattle.model.specs.Records.{Ptr}
use Rattle.trace.specs.declared.Member.{Member}

-- f i, f (i + 1), .., n of them
unfoldable pub tab : {A : Type 0} → (ℕ → A) → ℕ → ℕ → List A
tab f i zero = []
tab f i (suc n) = f i ∷ tab f (suc i) n

abbrev pub pointer : ℕ → ℕ → ℕ → Ptr
pointer h b o = record { heap = h; base = b; off = o }

abbrev pub ptr_of : Member → Ptr
ptr_of m = pointer m.heap m.base m.offset

-- entry i
unfoldable pub ptr_at : List ℕ → ℕ → Ptr
ptr_at w i = pointer (get_or w (3 * i) 0) (get_or w (3 * i + 1) 0) (get_or w (3 * i + 2) 0)

-- the first n entries
unfoldable pub members : ℕ → List ℕ → List Ptr
members n w = tab (ptr_at w) 0 n

-- all entries, where the words hold nothing else
abbrev pub listed : List ℕ → List Ptr
listed w = members (length w / 3) w

-- p stored as entry n
abbrev pub stored : List ℕ → ℕ → Ptr → List ℕ
stored w n p = set (set (set w (3 * n) p.heap) (3 * n + 1) p.base) (3 * n + 2) p.off
