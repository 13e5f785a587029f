-- What is given to a model and what it takes of offers are updates of its functions that fit.
use Rattle.std.proofs.Common.{◌≡◌, ℕ, Bool, true, false, cond, not, ◌&&◌, ◌||◌, List, [], ◌∷◌, ◌++◌, map, filter, Option, Some, None, slice_get, option_map, option_and_then, Ok, Err, IfOk, IfSome, refl, ap}
use Rattle.std.specs.Option.{option_map_or}
use Rattle.std.specs.Result.{result_ok}
use Rattle.std.specs.List.{AllByRecursion}
use Rattle.std.specs.Ordering.{is_eq}
use Rattle.std.proofs.lemmas.Cmp.{tied_itself}
use Rattle.asm_value.specs.declared.value.Value.{Value}
use Rattle.asm_value.specs.declared.value.Value.TheVariants.{Undef}
use Rattle.asm_value.specs.declared.domain.Domain.{Domain}
use Rattle.asm_value.specs.declared.domain.DomainInfo.{DomainInfo}
use Rattle.asm_value.specs.declared.domain.Live.{Live}
use Rattle.asm_value.specs.declared.location.Update.{Update}
use Rattle.asm_value.specs.Domain.{fits, each_passes}
use Rattle.asm_value.specs.Living.{live_of}
use Rattle.asm_value.specs.State.{is_undef}
use Rattle.asm_value.specs.TotalOrders.{compare_total}
use Rattle.asm_value.proofs.RangeLaws.{all_append}
use Rattle.asm_program.specs.declared.program.FunctionInfo.{FunctionInfo}
use Rattle.asm_program.specs.declared.program.FunctionKind.{FunctionKind}
use Rattle.asm_program.specs.declared.program.FunctionKind.TheVariants as kinds
use Rattle.asm_program.specs.Functions.{function_named}
use Rattle.asm_portable.specs.declared.port.Port.{Port}
use Rattle.asm_portable.specs.declared.port.Field.{Field}
use Rattle.asm_portable.specs.Ports.{as_list, is_null}
use Rattle.asm_portable.specs.Reading.{Read, value_of}
use Rattle.asm_compose.specs.declared.given.Given.{Given}
use Rattle.asm_compose.specs.Offers.{Offer}
use Rattle.asm_board.specs.declared.refusal.Refusal.{Refusal}
use Rattle.asm_board.specs.Kinds.{is_input}
use Rattle.asm_board.specs.Contents.{Contents}
use Rattle.asm_board.specs.Refusals.{Tried}
use Rattle.asm_board.specs.Inputs.{and_others, set_to, once_each, repeats, value_in, value_or_undef, args_in, update_in, pair_in, pair_of, pairs_in, listed_in, updates_in, input_in, function_in, unless_misfit, both_given, functions_given, hears, is_input_of, is_given, is_taken, offered_in, offered_update, disagrees, with_offered, offered_from, offered, inputs_of}
use Rattle.asm_board.proofs.Found.{goes_by}
use Rattle.asm_soundness.specs.WellFormed.{is_dynamic}
use Rattle.asm_soundness.specs.Keeping.{IsInput}

and_true : (a b : Bool) → a ≡ true → b ≡ true → (a && b) ≡ true
and_true true b first second = second
and_true false b first second = absurd (cc (first))

or_true : (a b : Bool) → b ≡ true → (a || b) ≡ true
or_true true b h = refl
or_true false b h = h

input_is_dynamic : (k : FunctionKind) → is_input k ≡ true → is_dynamic k ≡ true
input_is_dynamic kinds.Static is = absurd (cc (is))
input_is_dynamic kinds.Derived is = absurd (cc (is))
input_is_dynamic kinds.Controlled is = refl
input_is_dynamic kinds.Monitored is = refl
input_is_dynamic kinds.Shared is = refl
input_is_dynamic kinds.Out is = refl
input_is_dynamic kinds.Constant is = absurd (cc (is))

-- what is so of what one thing gives is so of what both give
then_some : {A B : Type 0} (Q : A → Type 0) (P : B → Type 0) (o : Option A) (go : A → Option B) → IfSome o Q → ((x : A) → Q x → IfSome (go x) P) → IfSome (option_and_then go o) P
then_some Q P None go first next = tt
then_some Q P (Some x) go first next = next x first

itself : {A : Type 0} (o : Option A) → IfSome o (λ x. o ≡ Some x)
itself None = tt
itself (Some x) = refl

unit_some : {A : Type 0} (o : Option A) → IfSome o (λ _. Unit {0})
unit_some None = tt
unit_some (Some x) = tt

some_weaker : {A : Type 0} (Q P : A → Type 0) (o : Option A) → ((x : A) → Q x → P x) → IfSome o Q → IfSome o P
some_weaker Q P None of h = tt
some_weaker Q P (Some x) of h = of x h

-- what a tree is read as is a value of the domain
abbrev pub ReadsFit : Type 0
ReadsFit = (domains : List DomainInfo) (live : Live) (domain : Domain) (tree : Port) (value : Value)
    → value_of domains live domain tree ≡ Ok value → fits domains live domain value ≡ true

module _ (reads : ReadsFit) (content : Contents) where
  abbrev live : Live
  live = live_of content.state content.program.domains

  abbrev FitsIn : Domain → Value → Type 0
  FitsIn d v = fits content.program.domains live d v ≡ true

  abbrev All : List Update → Type 0
  All us = AllByRecursion (IsInput content.program content.state) us

  -- ---- one location

  read_fits : (d : Domain) (t : Port) (r : Read Value) → value_of content.program.domains live d t ≡ r → IfSome (result_ok r) (FitsIn d)
  read_fits d t (Ok v) is = reads content.program.domains live d t v is
  read_fits d t (Err path) is = tt

  value_fits : (d : Domain) (t : Port) → IfSome (value_in content d t) (FitsIn d)
  value_fits d t = read_fits d t (value_of content.program.domains live d t) refl

  undef_or_fits : (d : Domain) (v : Value) → FitsIn d v → (is_undef v || fits content.program.domains live d v) ≡ true
  undef_or_fits d v h = or_true (is_undef v) (fits content.program.domains live d v) h

  abbrev MayBe : Domain → Value → Type 0
  MayBe d v = (is_undef v || fits content.program.domains live d v) ≡ true

  undef_is : is_undef Undef ≡ true
  undef_is = ap is_eq (tied_itself compare_total Undef)

  undef_at : (d : Domain) (t : Port) (null : Bool) → IfSome (cond null (Some Undef) (value_in content d t)) (MayBe d)
  undef_at d t true = ap (λ b. b || fits content.program.domains live d Undef) undef_is
  undef_at d t false = some_weaker (FitsIn d) (MayBe d) (value_in content d t) (undef_or_fits d) (value_fits d t)

  value_may : (d : Domain) (t : Port) → IfSome (value_or_undef content d t) (MayBe d)
  value_may d t = undef_at d t (is_null t)

  abbrev ArgsFit : List Domain → List Value → Type 0
  ArgsFit ds vs = each_passes (map (fits content.program.domains live) ds) vs ≡ true

  more_fit : (d : Domain) (ds : List Domain) (o : Option Value) (os : Option (List Value)) → IfSome o (FitsIn d) → IfSome os (ArgsFit ds) → IfSome (and_others o os) (ArgsFit (d ∷ ds))
  more_fit d ds None os first rest = tt
  more_fit d ds (Some v) None first rest = tt
  more_fit d ds (Some v) (Some vs) first rest = and_true (fits content.program.domains live d v) (each_passes (map (fits content.program.domains live) ds) vs) first rest

  args_fit : (ds : List Domain) (ts : List Port) → IfSome (args_in content ds ts) (ArgsFit ds)
  args_fit [] [] = refl
  args_fit [] (t ∷ ts) = tt
  args_fit (d ∷ ds) [] = tt
  args_fit (d ∷ ds) (t ∷ ts) = more_fit d ds (value_in content d t) (args_in content ds ts) (value_fits d t) (args_fit ds ts)

  module _ (f : ℕ) (info : FunctionInfo) (declared : slice_get content.program.functions f ≡ Some info) (is : is_input info.kind ≡ true) where
    set_is : (vs : List Value) (v : Value) → ArgsFit info.args vs → MayBe info.result v → IsInput content.program content.state (set_to f vs v)
    set_is vs v args value = record {
      function = f;
      info = info;
      declared = declared;
      dynamic = input_is_dynamic info.kind is;
      subject = refl;
      arguments = args;
      value = value;
    }

    set_some : (vs : List Value) (o : Option Value) → ArgsFit info.args vs → IfSome o (MayBe info.result) → IfSome (option_map (set_to f vs) o) (IsInput content.program content.state)
    set_some vs None args value = tt
    set_some vs (Some v) args value = set_is vs v args value

    pub update_is : (args : List Port) (tree : Port) → IfSome (update_in content f info args tree) (IsInput content.program content.state)
    update_is args tree =
        then_some (ArgsFit info.args) (IsInput content.program content.state) (args_in content info.args args) _ (args_fit info.args args)
        (λ vs fit. set_some vs (value_or_undef content info.result tree) fit (value_may info.result tree))

    -- ---- one function

    pair_is : (o : Option (List Port)) → IfSome (pair_in content f info o) (IsInput content.program content.state)
    pair_is None = tt
    pair_is (Some []) = tt
    pair_is (Some (args ∷ [])) = tt
    pair_is (Some (args ∷ tree ∷ [])) =
        then_some (λ _. Unit {0}) (IsInput content.program content.state) (as_list args) _ (unit_some (as_list args)) (λ trees _. update_is trees tree)
    pair_is (Some (args ∷ tree ∷ more ∷ rest)) = tt

    pairs_more : (o : Option Update) (os : Option (List Update)) → IfSome o (IsInput content.program content.state) → IfSome os All → IfSome (and_others o os) All
    pairs_more None os first rest = tt
    pairs_more (Some u) None first rest = tt
    pairs_more (Some u) (Some us) first rest = (first, rest)

    pairs_are : (ts : List Port) → IfSome (pairs_in content f info ts) All
    pairs_are [] = tt
    pairs_are (t ∷ ts) = pairs_more (pair_of content f info t) (pairs_in content f info ts) (pair_is (as_list t)) (pairs_are ts)

    once_are : (us : List Update) (t : Bool) → All us → IfSome (cond t None (Some us)) All
    once_are us true all = tt
    once_are us false all = all

    listed_are : (tree : Port) → IfSome (listed_in content f info tree) All
    listed_are tree =
        then_some All All (option_and_then (pairs_in content f info) (as_list tree)) once_each
        (then_some (λ _. Unit {0}) All (as_list tree) (pairs_in content f info) (unit_some (as_list tree)) (λ ts _. pairs_are ts))
        (λ us all. once_are us (repeats us) all)

    only_one : (o : Option Update) → IfSome o (IsInput content.program content.state) → IfSome (option_map (λ u. u ∷ []) o) All
    only_one None h = tt
    only_one (Some u) h = (h, tt)

    updates_are : (ds : List Domain) (tree : Port) → IfSome (updates_in content f info ds tree) All
    updates_are [] tree = only_one (update_in content f info [] tree) (update_is [] tree)
    updates_are (d ∷ ds) tree = listed_are tree

  input_at : (f : ℕ) (info : FunctionInfo) (tree : Port) (t : Bool) → slice_get content.program.functions f ≡ Some info → is_input info.kind ≡ t
      → IfSome (cond t (updates_in content f info info.args tree) None) All
  input_at f info tree true declared is = updates_are f info declared is info.args tree
  input_at f info tree false declared is = tt

  input_are : (f : ℕ) (o : Option FunctionInfo) (tree : Port) → slice_get content.program.functions f ≡ o → IfSome (input_in content f o tree) All
  input_are f None tree declared = tt
  input_are f (Some info) tree declared = input_at f info tree (is_input info.kind) declared refl

  function_are : (function : List ℕ) (tree : Port) → IfSome (function_in content function tree) All
  function_are function tree =
      then_some (λ _. Unit {0}) All (function_named 0 content.program.functions function) _ (unit_some (function_named 0 content.program.functions function))
      (λ f _. input_are f (slice_get content.program.functions f) tree refl)

  -- ---- what the environment gives

  fit_are : (function name : List ℕ) (o : Option (List Update)) → IfSome o All → IfOk (unless_misfit function name o) All
  fit_are function name None h = tt
  fit_are function name (Some us) h = h

  both_are : (first others : Tried (List Update)) → IfOk first All → IfOk others All → IfOk (both_given first others) All
  both_are (Err why) others h k = tt
  both_are (Ok us) (Err why) h k = tt
  both_are (Ok us) (Ok vs) h k = all_append (IsInput content.program content.state) us vs h k

  given_are : (name : List ℕ) (fs : List Field) → IfOk (functions_given name content fs) All
  given_are name [] = tt
  given_are name (f ∷ fs) =
      both_are (unless_misfit f.key name (function_in content f.key f.tree)) (functions_given name content fs)
      (fit_are f.key name (function_in content f.key f.tree) (function_are f.key f.tree)) (given_are name fs)

  -- ---- what is offered

  offered_one : (g : Given) (f : ℕ) (o : Option FunctionInfo) → slice_get content.program.functions f ≡ o → is_input_of content o ≡ true → IfSome (offered_in content f o g) (IsInput content.program content.state)
  offered_one g f None declared hears = tt
  offered_one g f (Some info) declared hears = update_is f info declared hears g.args g.value

  offered_by : (g : Given) (o : Option ℕ) → option_map_or (λ f. is_input_of content (slice_get content.program.functions f)) o false ≡ true
      → IfSome (option_and_then (λ f. offered_in content f (slice_get content.program.functions f) g) o) (IsInput content.program content.state)
  offered_by g None heard = tt
  offered_by g (Some f) heard = offered_one g f (slice_get content.program.functions f) refl heard

  update_are : (g : Given) → hears content g.function ≡ true → IfSome (offered_update content g) (IsInput content.program content.state)
  update_are g heard = offered_by g (function_named 0 content.program.functions g.function) heard

  agree_are : (function name : List ℕ) (us : List Update) (u : Update) (t : Bool) (why : Refusal) → All us → IsInput content.program content.state u
      → IfOk (cond t (Err why) (Ok (us ++ u ∷ []))) All
  agree_are function name us u true why all one = tt
  agree_are function name us u false why all one = all_append (IsInput content.program content.state) us (u ∷ []) all (one, tt)

  with_are : (function name : List ℕ) (us : List Update) (o : Option Update) → All us → IfSome o (IsInput content.program content.state) → IfOk (with_offered content function name us o) All
  with_are function name us None all one = tt
  with_are function name us (Some u) all one = agree_are function name us u (disagrees us u) _ all one

  from_are : (name : List ℕ) (us : List Update) (gs : List Given) → All us → AllByRecursion (λ g. hears content g.function ≡ true) gs → IfOk (offered_from content name us gs) All
  from_are name us [] all heard = all
  from_are name us (g ∷ gs) all heard =
      goes_by All All (with_offered content g.function name us (offered_update content g)) _
      (with_are g.function name us (offered_update content g) all (update_are g heard.0)) (λ vs more. from_are name vs gs more heard.1)

  first_true : (a b : Bool) → (a && b) ≡ true → a ≡ true
  first_true true b h = refl
  first_true false b h = h

  taken_at : (fs : List Field) (g : Given) (gs : List Given) (t : Bool) → is_taken content fs g ≡ t → AllByRecursion (λ (h : Given). hears content h.function ≡ true) (filter (is_taken content fs) gs)
      → AllByRecursion (λ (h : Given). hears content h.function ≡ true) (cond t (g ∷ filter (is_taken content fs) gs) (filter (is_taken content fs) gs))
  taken_at fs g gs true is rest = (first_true (hears content g.function) (not (is_given fs g.function)) is, rest)
  taken_at fs g gs false is rest = rest

  taken_hear : (fs : List Field) (gs : List Given) → AllByRecursion (λ (h : Given). hears content h.function ≡ true) (filter (is_taken content fs) gs)
  taken_hear fs [] = tt
  taken_hear fs (g ∷ gs) = taken_at fs g gs (is_taken content fs g) refl (taken_hear fs gs)

  -- each input of a step is an update of one of the model's functions, and fits
  pub inputs_are : (name : List ℕ) (fs : List Field) (offer : Offer) → IfOk (inputs_of content name fs offer) All
  inputs_are name fs offer =
      both_are (functions_given name content fs) (offered content name fs offer) (given_are name fs)
      (from_are name [] (filter (is_taken content fs) offer) tt (taken_hear fs offer))
