-- Trusted. Runs of calls of which some are one's own: what one sees of them, and two runs that first differ where that is
-- excused.
--
--   only             the own calls of a list
--   Moment, moments  each own call of a run with the state before it
--   Seen, seen       what one sees of it
--   FirstDiffer      where two runs first differ; `Isolated`: nowhere, or so
use Rattle.std.specs.Prelude.{ℕ, ◌≡◌, ◌⊎◌, List, [], ◌∷◌, ◌++◌, map, Bool, true, cond}

-- the elements that pass, in their order
module _ {A : Type 0} (f : A → Bool) where
  abbrev pub only : List A → List A
  only [] = []
  only (x ∷ xs) = cond (f x) (x ∷ only xs) (only xs)

-- A call, and the state that it is made on.
pub record Moment (C S : Type 0) : Type 0 where
  pub call : C
  pub before : S

-- One's own calls in a run, each with the state that all calls before it left, one's own and the others'.
module _ {C S : Type 0} (step : C → S → S) (mine : C → Bool) where
  abbrev pub moments : S → List C → List (Moment C S)
  moments s [] = []
  moments s (c ∷ cs) = cond (mine c) (record { call = c; before = s } ∷ moments (step c s) cs) (moments (step c s) cs)

-- What one sees of an own call: its answer, and the own part of the state after it.
pub record Seen (A O : Type 0) : Type 0 where
  pub answer : A
  pub view : O

module _ {C S A O : Type 0} (step : C → S → S) (answer : C → S → A) (view : S → O) where
  abbrev pub seen : Moment C S → Seen A O
  seen m = record { answer = answer m.call m.before; view = view (step m.call m.before) }

-- Of two runs: up to m and n all that is seen is the same; at m and n the numbers that are seen differ, and one of the two is excused.
module _ {M E : Type 0} (see : M → E) (number : E → ℕ) (excused : M → Bool) where
  pub record FirstDiffer (ms ns : List M) : Type 0 where
    pub front : List M
    pub front' : List M
    pub m : M
    pub n : M
    pub rest : List M
    pub rest' : List M
    pub one : ms ≡ front ++ (m ∷ rest)
    pub other : ns ≡ front' ++ (n ∷ rest')
    pub same : map see front ≡ map see front'
    pub differ : number (see m) ≡ number (see n) → ⊥
    pub excuse : (excused m ≡ true) ⊎ (excused n ≡ true)

  -- All that is seen is the same, or it first differs so.
  abbrev pub Isolated : List M → List M → Type 0
  Isolated ms ns = (map see ms ≡ map see ns) ⊎ FirstDiffer ms ns
