-- What is true of what was found, one search after another.
use Rattle.std.proofs.Common.{◌≡◌, Bool, true, false, Option, Some, None, Ok, Err, IfOk, IfSome, option_map, find, cond, List, [], ◌∷◌, refl, subst}
use Rattle.std.specs.List.{AllByRecursion}
use Rattle.asm_board.specs.declared.refusal.Refusal.{Refusal}
use Rattle.asm_board.specs.Refusals.{Tried, after, needs, is_there}

-- what is true where the first was found, and then of the second, is true of both together
pub goes_by : {A B : Type 0} (Q : A → Type 0) (P : B → Type 0) (t : Tried A) (go : A → Tried B) → IfOk t Q → ((x : A) → Q x → IfOk (go x) P) → IfOk (after t go) P
goes_by Q P (Ok x) go first next = next x first
goes_by Q P (Err why) go first next = tt

itself : {A : Type 0} (t : Tried A) → IfOk t (λ x. t ≡ Ok x)
itself (Ok x) = refl
itself (Err why) = tt

-- the same, where the second knows what was found
pub goes_on : {A B : Type 0} (P : B → Type 0) (t : Tried A) (go : A → Tried B) → ((x : A) → t ≡ Ok x → IfOk (go x) P) → IfOk (after t go) P
goes_on P t go next = goes_by (λ x. t ≡ Ok x) P t go (itself t) next

-- what is true if something is found is true of what is found
pub gives : {A : Type 0} (P : A → Type 0) (t : Tried A) (x : A) → IfOk t P → t ≡ Ok x → P x
gives {A} P t x h is = subst (λ (r : Tried A). IfOk r P) is h

-- what follows for what is found
pub weaker : {A : Type 0} {P Q : A → Type 0} (t : Tried A) → ((x : A) → P x → Q x) → IfOk t P → IfOk t Q
weaker (Ok x) of h = of x h
weaker (Err why) of h = tt

-- a test that is needed passes
pub passes : (t : Bool) (why : Refusal) → IfOk (needs t why) (λ _. t ≡ true)
passes true why = refl
passes false why = tt

pub there : {A : Type 0} (P : A → Type 0) (o : Option A) (why : Refusal) → IfSome o P → IfOk (is_there o why) P
there P (Some x) why h = h
there P None why h = tt

-- what has to be there is the one that is there
pub is_the_one : {A : Type 0} (o : Option A) (why : Refusal) → IfOk (is_there o why) (λ x. o ≡ Some x)
is_the_one (Some x) why = refl
is_the_one None why = tt

-- ---- lists

pub mapped : {A B : Type 0} (P : B → Type 0) (f : A → B) (o : Option A) → IfSome o (λ x. P (f x)) → IfSome (option_map f o) P
mapped P f (Some x) h = h
mapped P f None h = tt

found_at : {A : Type 0} (P : A → Type 0) (x : A) (t : Bool) (rest : Option A) → P x → IfSome rest P → IfSome (cond t (Some x) rest) P
found_at P x true rest one others = one
found_at P x false rest one others = others

-- what is true of each is true of the first that passes a test
pub found_among : {A : Type 0} (P : A → Type 0) (test : A → Bool) (xs : List A) → AllByRecursion P xs → IfSome (find test xs) P
found_among P test [] all = tt
found_among P test (x ∷ xs) all = found_at P x (test x) (find test xs) all.0 (found_among P test xs all.1)
