-- The state of advisers after several places.
use Rattle.std.proofs.Common.{◌≡◌, ℕ, zero, suc, get_or, Ok, map-id, add-one, inl, inr, ◌⊎◌, ◌-◌, ◌≤◌, ◌<◌, Bool, true, false, ◌&&◌, cond, IsTrue, List, [], ◌∷◌, ◌++◌, length, map, Option, Some, None, option_map, refl, sym, ◌∙◌, ap, subst, arith}
use Rattle.std.specs.List.{filter, cons_option, AllByRecursion, Contains}
use Rattle.std.proofs.lemmas.List.{length-map}
use Rattle.std.proofs.lemmas.List.Elements.{All-contains, All-from_recursion}
use Rattle.astc_model.specs.declared.block.Block.{Block}
use Rattle.std.specs.Prelude.{is_some}
use Rattle.std.specs.Result.{result_ok}
use Rattle.astc_model.specs.Errors.{error}
use Rattle.astc_model.specs.Reading.{read}
use Rattle.adviser_pool.specs.declared.ask.Ask.{Ask}
use Rattle.adviser_pool.specs.Advisers.{AdviserState, raised, after_ask, after_settled}
use Rattle.adviser_pool.specs.Asking.{kept, IsSubsequence, block_of, blocks_of, is_block, is_ready}
use Rattle.packed_levels.specs.Settling.{SettlingWay, Settling}
use Rattle.packed_levels.specs.Serving.{ask_for, ServesIf, ServesFile, ReadyStay, Keeps, IsAtMost, served, served_all, Serves, ServesAll, NoWorse, last_of, IsToldLast, raised_by, AreAsked}

-- one place more
pub serves_all-more : (way : SettlingWay) (before between after : List AdviserState)
    (done : List Settling) (next : Settling)
    → ServesAll way before between done → Serves way between after next
    → ServesAll way before after (done ++ next ∷ [])
serves_all-more way before between after [] next so_far step =
    (after, subst (λ xs. Serves way xs after next) so_far step, refl)
serves_all-more way before between after (d ∷ ds) next so_far step =
    (so_far.0, so_far.1, serves_all-more way so_far.0 between after ds next so_far.2 step)

-- subsequences
pub kept-map : {A B : Type 0} (f : A → B) (truths : List Bool) (xs : List A)
    → kept truths (map f xs) ≡ map f (kept truths xs)
kept-map f [] xs = refl
kept-map f (t ∷ truths) [] = refl
kept-map f (true ∷ truths) (x ∷ xs) = ap (λ ys. f x ∷ ys) (kept-map f truths xs)
kept-map f (false ∷ truths) (x ∷ xs) = kept-map f truths xs

both : List Bool → List Bool → List Bool
both outer [] = []
both outer (false ∷ inner) = false ∷ both outer inner
both [] (true ∷ inner) = []
both (t ∷ outer) (true ∷ inner) = t ∷ both outer inner

kept-nil : {A : Type 0} (truths : List Bool) → kept {A = A} truths [] ≡ []
kept-nil [] = refl
kept-nil (t ∷ truths) = refl

kept-kept : {A : Type 0} (outer inner : List Bool) (xs : List A) → kept outer (kept inner xs)
    ≡ kept (both outer inner) xs
unfolding both
kept-kept outer [] xs = kept-nil outer
kept-kept outer (t ∷ inner) [] = kept-nil outer ∙ sym (kept-nil (both outer (t ∷ inner)))
kept-kept outer (false ∷ inner) (x ∷ xs) = kept-kept outer inner xs
kept-kept [] (true ∷ inner) (x ∷ xs) = refl
kept-kept (true ∷ outer) (true ∷ inner) (x ∷ xs) = ap (λ ys. x ∷ ys) (kept-kept outer inner xs)
kept-kept (false ∷ outer) (true ∷ inner) (x ∷ xs) = kept-kept outer inner xs

kept-all : {A : Type 0} (xs : List A) → xs ≡ kept (map (λ _. true) xs) xs
kept-all [] = refl
kept-all (x ∷ xs) = ap (λ ys. x ∷ ys) (kept-all xs)

pub map-map : {A B C : Type 0} (f : A → B) (g : B → C) (xs : List A) → map g (map f xs)
    ≡ map (λ x. g (f x)) xs
map-map f g [] = refl
map-map f g (x ∷ xs) = ap (λ ys. g (f x) ∷ ys) (map-map f g xs)

-- who is left came from the entry, in order
pub serves_all-left : (way : SettlingWay) (before after : List AdviserState) (done : List Settling)
    → ServesAll way before after done
    → (stayed : List AdviserState) × IsSubsequence stayed before
    × (after ≡ map (served_all way done) stayed)
serves_all-left way before after [] serves =
    (before, (map (λ _. true) before, kept-all before), serves ∙ sym (map-id before))
serves_all-left way before after (d ∷ ds) serves =
    let first = serves.1 in
    let rest = serves_all-left way serves.0 after ds serves.2 in
    let outer = rest.1.0 in
    let inner = first.part.0 in
    let stayed = kept (both outer inner) before in
    let came : rest.0 ≡ map (served way d) stayed = rest.1.1 ∙ ap (kept outer) first.now
    ∙ kept-map (served way d) outer first.stayed
    ∙ ap (λ xs. map (served way d) (kept outer xs)) first.part.1
    ∙ ap (map (served way d)) (kept-kept outer inner before) in (
      stayed,
      (both outer inner, refl),
      rest.2 ∙ ap (map (served_all way ds)) came
          ∙ map-map (served way d) (served_all way ds) stayed,
    )

and_true : (b : Bool) → (b && true) ≡ b
and_true true = refl
and_true false = refl

-- after the report of a block, the echoing advisers are ready
ready_is_echoing : (way : SettlingWay) (d : Settling) (stayed : List AdviserState)
    → IsTrue (is_block way.w way.h d.bytes)
    → filter (is_ready way.w way.h) (map (served way d) stayed)
    ≡ filter (λ a. a.echoes) (map (served way d) stayed)
ready_is_echoing way d [] legal = refl
ready_is_echoing way d (a ∷ stayed) legal =
    let rest = ready_is_echoing way d stayed legal in
    let same : is_ready way.w way.h (served way d a) ≡ a.echoes = ap (λ t. a.echoes && t) legal
    ∙ and_true a.echoes in
    ap (λ t. cond t (served way d a ∷ filter (is_ready way.w way.h) (map (served way d) stayed))
    (filter (is_ready way.w way.h) (map (served way d) stayed))) same
    ∙ ap (λ xs. cond a.echoes (served way d a ∷ xs) xs) rest

ready_stay : (way : SettlingWay) (before after : List AdviserState) (d : Settling)
    → Serves way before after d
    → length (filter (is_ready way.w way.h) after) ≡ length (filter (is_ready way.w way.h) before)
ready_stay way before after d serves =
    ap length (ap (filter (is_ready way.w way.h)) serves.now
    ∙ ready_is_echoing way d serves.stayed serves.legal
    ∙ ap (filter (λ a. a.echoes)) (sym serves.now)) ∙ serves.echoing

-- as many are left that echo as were ready
pub serves_all-echoing : (way : SettlingWay) (before after : List AdviserState) (d : Settling)
    (ds : List Settling) → ServesAll way before after (d ∷ ds)
    → length (filter (λ a. a.echoes) after) ≡ length (filter (is_ready way.w way.h) before)
serves_all-echoing way before after d [] serves = rw serves.2 serves.1.echoing
serves_all-echoing way before after d (e ∷ ds) serves =
    serves_all-echoing way serves.0 after e ds serves.2 ∙ ready_stay way before serves.0 d serves.1

-- with a ready adviser no block is worse than the one before
some_ready-step : (way : SettlingWay) (d : Settling) (Q : List ℕ → Type 0) (a : AdviserState)
    (stayed : List AdviserState) (r : Bool) → is_ready way.w way.h (served way d a) ≡ r
    → (0 < length (filter (is_ready way.w way.h) (map (served way d) stayed)) → Q d.bytes)
    → 0 < length (cond r (served way d a ∷ filter (is_ready way.w way.h)
    (map (served way d) stayed))
    (filter (is_ready way.w way.h) (map (served way d) stayed)))
    → (IsTrue (is_ready way.w way.h (served way d a)) → Q d.bytes) → Q d.bytes
some_ready-step way d Q a stayed true is later some here = here is
some_ready-step way d Q a stayed false is later some here = later some

some_ready : (way : SettlingWay) (d : Settling) (Q : List ℕ → Type 0) (stayed : List AdviserState)
    → 0 < length (filter (is_ready way.w way.h) (map (served way d) stayed))
    → AllByRecursion (λ a. IsTrue (is_ready way.w way.h a) → Q a.last) (map (served way d) stayed)
    → Q d.bytes
some_ready way d Q [] some each = absurd (omega arith)
some_ready way d Q (a ∷ stayed) some each = some_ready-step way d Q a stayed
    (is_ready way.w way.h (served way d a)) refl (λ later. some_ready way d Q stayed later each.1)
    some each.0

pub serves_all-no_worse : (way : SettlingWay) (before after : List AdviserState)
    (ds : List Settling) → ServesAll way before after ds
    → 0 < length (filter (is_ready way.w way.h) before) → NoWorse way ds
serves_all-no_worse way before after [] serves some = tt
serves_all-no_worse way before after (d ∷ []) serves some = tt
serves_all-no_worse way before after (d ∷ e ∷ ds) serves some =
    let first = serves.1 in
    let second = serves.2.1 in
    let still : 0 < length (filter (is_ready way.w way.h) serves.0) =
    rw (ready_stay way before serves.0 d first) some in (
      some_ready way d (IsAtMost way e.places e.error) first.stayed (rw first.now at still)
          (rw first.now at second.least),
      serves_all-no_worse way serves.0 after (e ∷ ds) serves.2 still,
    )

-- the last block is the last one reported to each adviser
heard_last : (before : Option (Option Ask)) (ask : Ask) (o : Option Ask)
    → option_map (λ _. Some ask) before ≡ Some o → o ≡ Some ask
heard_last None ask o is = cc
heard_last (Some x) ask o is = cc

told_last : (way : SettlingWay) (d : Settling) (ds : List Settling) (a : AdviserState)
    → IsToldLast way (last_of d ds).places (last_of d ds).bytes (last_of d ds).error
    (served_all way (d ∷ ds) a)
told_last way d [] a = record {
  last = refl;
  sum = refl;
  heard = heard_last a.heard (ask_for way d.places);
}
told_last way d (e ∷ ds) a = told_last way e ds (served way d a)

all_told_last : (way : SettlingWay) (d : Settling) (ds : List Settling) (stayed : List AdviserState)
    → AllByRecursion (IsToldLast way (last_of d ds).places (last_of d ds).bytes
    (last_of d ds).error) (map (served_all way (d ∷ ds)) stayed)
all_told_last way d ds [] = tt
all_told_last way d ds (a ∷ stayed) = (told_last way d ds a, all_told_last way d ds stayed)

pub serves_all-told : (way : SettlingWay) (before after : List AdviserState) (d : Settling)
    (ds : List Settling) → ServesAll way before after (d ∷ ds)
    → AllByRecursion (IsToldLast way (last_of d ds).places (last_of d ds).bytes
    (last_of d ds).error) after
serves_all-told way before after d ds serves =
    let left = serves_all-left way before after (d ∷ ds) serves in
    rw left.2 (all_told_last way d ds left.0)

-- each adviser is queried once per place
asked_of_all : (way : SettlingWay) (d : Settling) (ds : List Settling) (a : AdviserState)
    → (served_all way (d ∷ ds) a).asked ≡ raised_by (suc (length ds)) a.asked
asked_of_all way d [] a = omega arith
asked_of_all way d (e ∷ ds) a =
    let rest : (served_all way (e ∷ ds) (served way d a)).asked
    ≡ raised_by (suc (length ds)) (raised a.asked) = asked_of_all way e ds (served way d a) in
    omega arith

all_asked : (way : SettlingWay) (d : Settling) (ds : List Settling) (stayed : List AdviserState)
    → map (λ a. a.asked) (map (served_all way (d ∷ ds)) stayed)
    ≡ map (λ a. raised_by (suc (length ds)) a.asked) stayed
all_asked way d ds [] = refl
all_asked way d ds (a ∷ stayed) =
    ap (λ n. n ∷ map (λ a. a.asked) (map (served_all way (d ∷ ds)) stayed))
    (asked_of_all way d ds a)
    ∙ ap (λ ns. raised_by (suc (length ds)) a.asked ∷ ns) (all_asked way d ds stayed)

pub serves_all-asked : (way : SettlingWay) (before after : List AdviserState) (d : Settling)
    (ds : List Settling) → ServesAll way before after (d ∷ ds)
    → AreAsked (suc (length ds)) before after
serves_all-asked way before after d ds serves =
    let left = serves_all-left way before after (d ∷ ds) serves in
    record {
      stayed = left.0;
      part = left.1;
      counts = ap (map (λ a. a.asked)) left.2
          ∙ all_asked way d ds left.0;
    }

-- the same by places
pub no_worse-at : (way : SettlingWay) (ds : List Settling) (k : ℕ) → NoWorse way ds
    → suc k < length ds
    → IsAtMost way (get_or (map (λ d. d.places) ds) (suc k) [])
    (get_or (map (λ d. d.error) ds) (suc k) 0) (get_or (map (λ d. d.bytes) ds) k [])
no_worse-at way [] k no_worse below = absurd (omega arith)
no_worse-at way (d ∷ []) k no_worse below = absurd (omega arith)
no_worse-at way (d ∷ e ∷ ds) zero no_worse below = no_worse.0
no_worse-at way (d ∷ e ∷ ds) (suc k) no_worse below = no_worse-at way (e ∷ ds) k no_worse.1
    (omega arith)

last-at : {A : Type 0} (f : Settling → A) (d : Settling) (ds : List Settling) (z : A)
    → get_or (map f (d ∷ ds)) (length ds) z ≡ f (last_of d ds)
last-at f d [] z = refl
last-at f d (e ∷ ds) z = last-at f e ds z

-- from the settled places, of which there are some, to the file
pub serves_file : (way : SettlingWay) (before after : List AdviserState) (ds : List Settling)
    → 0 < length ds → ServesAll way before after ds
    → ServesFile way (map (λ d. d.places) ds) (map (λ d. d.bytes) ds)
    (map (λ d. d.error) ds) before after
serves_file way before after [] some serves = absurd (omega arith)
serves_file way before after (d ∷ ds) some serves =
    let whole : length (map (λ d. d.places) ds) ≡ length ds = length-map ds (λ d. d.places) in
    let same : suc (length (map (λ d. d.places) ds)) - 1 ≡ length ds = omega arith in
    record {
      some = omega arith;
      blocks_count = ap suc (length-map ds (λ d. d.bytes) ∙ sym whole);
      errors_count = ap suc (length-map ds (λ d. d.error) ∙ sym whole);
      told = rw (
        same,
        last-at (λ d. d.places) d ds [],
        last-at (λ d. d.bytes) d ds [],
        last-at
            (λ d. d.error) d ds 0,
      ) (serves_all-told way before after d ds serves);
      asked = rw whole (serves_all-asked way before after d ds serves);
      echoing = serves_all-echoing way before after d ds serves;
      first = serves.1.least;
      no_worse = λ ready k below.
          rw (add-one k) (no_worse-at way (d ∷ ds) k
          (serves_all-no_worse way before after (d ∷ ds) serves ready) (omega arith));
    }

-- at every moment
pub serves_all-ready : (way : SettlingWay) (before after : List AdviserState) (ds : List Settling)
    → ServesAll way before after ds
    → Keeps way before after
serves_all-ready way before after [] serves = inl serves
serves_all-ready way before after (d ∷ ds) serves =
    inr (serves_all-echoing way before after d ds serves)

-- one place, from what the calls on a pool promise
echoing-step : (bytes : List ℕ) (e : ℕ) (a : AdviserState) (xs ys : List AdviserState) (r : Bool)
    → xs ≡ map (after_settled bytes e) ys
    → cond r (after_settled bytes e a ∷ xs) xs ≡ map (after_settled bytes e) (cond r (a ∷ ys) ys)
echoing-step bytes e a xs ys true rest = ap (λ zs. after_settled bytes e a ∷ zs) rest
echoing-step bytes e a xs ys false rest = rest

echoing-settled : (bytes : List ℕ) (e : ℕ) (xs : List AdviserState)
    → filter (λ a. a.echoes) (map (after_settled bytes e) xs)
    ≡ map (after_settled bytes e) (filter (λ a. a.echoes) xs)
echoing-settled bytes e [] = refl
echoing-settled bytes e (a ∷ xs) =
    echoing-step bytes e a (filter (λ b. b.echoes) (map (after_settled bytes e) xs))
    (filter (λ b. b.echoes) xs) a.echoes (echoing-settled bytes e xs)

pub all-weaker : {A : Type 0} (P Q : A → Type 0) (xs : List A) → ((x : A) → P x → Q x)
    → AllByRecursion P xs → AllByRecursion Q xs
all-weaker P Q [] f all = tt
all-weaker P Q (x ∷ xs) f all = (f x all.0, all-weaker P Q xs f all.1)

all-rest : {A : Type 0} (P : A → Type 0) (o : Option A) (xs : List A)
    → AllByRecursion P (cons_option o xs) → AllByRecursion P xs
all-rest P None xs all = all
all-rest P (Some x) xs all = all.1

least-step : (way : SettlingWay) (P : Block → Type 0) (a : AdviserState) (ready : List AdviserState)
    (r : Bool) → is_ready way.w way.h a ≡ r
    → AllByRecursion P (blocks_of way.w way.h (map (λ b. b.last) (cond r (a ∷ ready) ready)))
    → (IsTrue (is_ready way.w way.h a) → (block : Block) → block_of way.w way.h a.last ≡ Some block
    → P block) × AllByRecursion P (blocks_of way.w way.h (map (λ b. b.last) ready))
least-step way P a ready true is all = (
  λ yes block reads. (subst
      (λ o. AllByRecursion P (cons_option o (blocks_of way.w way.h (map (λ b. b.last) ready))))
      reads all).0,
  all-rest P (block_of way.w way.h a.last) (blocks_of way.w way.h (map (λ b. b.last) ready)) all,
)
least-step way P a ready false is all = (λ yes block reads. absurd (cc), all)

least-of : (way : SettlingWay) (P : Block → Type 0) (xs : List AdviserState)
    → AllByRecursion P (blocks_of way.w way.h
    (map (λ b. b.last) (filter (is_ready way.w way.h) xs)))
    → AllByRecursion (λ a. IsTrue (is_ready way.w way.h a) → (block : Block)
    → block_of way.w way.h a.last ≡ Some block → P block) xs
least-of way P [] all = tt
least-of way P (a ∷ xs) all =
    let both = least-step way P a (filter (is_ready way.w way.h) xs)
    (is_ready way.w way.h a) refl all in
    (both.0, least-of way P xs both.1)

pub serves-one : (way : SettlingWay) (before between after : List AdviserState) (d : Settling)
    (blocks : List Block)
    → (stayed : List AdviserState) × IsSubsequence stayed before
    × (between ≡ map (after_ask (ask_for way d.places)) stayed)
    → filter (λ a. a.echoes) between ≡ map (after_ask (ask_for way d.places))
    (filter (is_ready way.w way.h) before)
    → AllByRecursion (Contains blocks)
    (blocks_of way.w way.h (map (λ a. a.last) (filter (is_ready way.w way.h) before)))
    → after ≡ map (after_settled d.bytes d.error) between
    → IsTrue (is_block way.w way.h d.bytes)
    → AllByRecursion (λ block.
    d.error ≤ error way.w way.h way.options.settings.flavour way.options.settings.weights
    block d.places) blocks
    → Serves way before after d
serves-one way before between after d blocks left echoing among told legal least = record {
  stayed = left.0;
  part = left.1;
  now = told ∙ ap (map (after_settled d.bytes d.error)) left.2
      ∙ map-map (after_ask (ask_for way d.places)) (after_settled d.bytes d.error) left.0;
  echoing = ap length (ap (filter (λ a. a.echoes)) told ∙ echoing-settled d.bytes d.error between
      ∙ ap (map (after_settled d.bytes d.error)) echoing)
      ∙ length-map (map (after_ask (ask_for way d.places)) (filter (is_ready way.w way.h) before))
      (after_settled d.bytes d.error)
      ∙ length-map (filter (is_ready way.w way.h) before) (after_ask (ask_for way d.places));
  least = least-of way (λ block.
      d.error ≤ error way.w way.h way.options.settings.flavour way.options.settings.weights
      block d.places) before
      (all-weaker (Contains blocks)
      (λ block. d.error ≤ error way.w way.h way.options.settings.flavour
      way.options.settings.weights block d.places)
      (blocks_of way.w way.h (map (λ a. a.last) (filter (is_ready way.w way.h) before)))
      (λ block there. All-contains
      (λ b. d.error ≤ error way.w way.h way.options.settings.flavour
      way.options.settings.weights b d.places) blocks block
      (All-from_recursion (λ b.
      d.error ≤ error way.w way.h way.options.settings.flavour
      way.options.settings.weights b d.places) blocks least) there)
      among);
  legal = legal;
}

-- several lists of places, one after another
pub serves_all-append : (way : SettlingWay) (before between after : List AdviserState)
    (xs ys : List Settling)
    → ServesAll way before between xs → ServesAll way between after ys
    → ServesAll way before after (xs ++ ys)
serves_all-append way before between after [] ys first second =
    subst (λ states. ServesAll way states after ys) first second
serves_all-append way before between after (d ∷ xs) ys first second =
    (first.0, first.1, serves_all-append way first.0 between after xs ys first.2 second)

-- with the pool or without it
pub serves_if-more : (way : SettlingWay) (advised : Bool) (before between after : List AdviserState)
    (done : List Settling) (next : Settling)
    → ServesIf advised way before between done → (IsTrue advised → Serves way between after next)
    → (advised ≡ false → after ≡ between) → ServesIf advised way before after (done ++ next ∷ [])
serves_if-more way true before between after done next so_far step same =
    serves_all-more way before between after done next so_far (step refl)
serves_if-more way false before between after done next so_far step same = same refl ∙ so_far

pub serves_if-none : (way : SettlingWay) (advised : Bool) (before : List AdviserState)
    → ServesIf advised way before before []
serves_if-none way true before = refl
serves_if-none way false before = refl

pub serves_if-append : (way : SettlingWay) (advised : Bool)
    (before between after : List AdviserState) (xs ys : List Settling)
    → ServesIf advised way before between xs → ServesIf advised way between after ys
    → ServesIf advised way before after (xs ++ ys)
serves_if-append way true before between after xs ys first second =
    serves_all-append way before between after xs ys first second
serves_if-append way false before between after xs ys first second = second ∙ first

pub serves_if-ready : (way : SettlingWay) (advised : Bool) (before after : List AdviserState)
    (ds : List Settling) → ServesIf advised way before after ds
    → Keeps way before after
serves_if-ready way true before after ds serves = serves_all-ready way before after ds serves
serves_if-ready way false before after ds serves = inl serves

-- what was ready stays so further on, also up to a refusal
still_ready : (way : SettlingWay) (before after : List AdviserState) (d : Settling)
    (ds : List Settling) → ServesAll way before after (d ∷ ds)
    → length (filter (is_ready way.w way.h) after) ≡ length (filter (is_ready way.w way.h) before)
still_ready way before after d [] serves = rw serves.2 (ready_stay way before serves.0 d serves.1)
still_ready way before after d (e ∷ ds) serves = still_ready way serves.0 after e ds serves.2
    ∙ ready_stay way before serves.0 d serves.1

ready_further : (way : SettlingWay) (before between after : List AdviserState) (ds : List Settling)
    → ServesAll way before between ds
    → Keeps way between after → Keeps way before after
ready_further way before between after [] serves further =
    subst (λ xs. (after ≡ xs) ⊎ ReadyStay way xs after) serves further
ready_further way before between after (d ∷ ds) serves further = elim further [
  | inl same ↦ inr (rw same (serves_all-echoing way before between d ds serves))
  | inr stay ↦ inr (stay ∙ still_ready way before between d ds serves)
]

pub serves_if-further : (way : SettlingWay) (advised : Bool)
    (before between after : List AdviserState) (ds : List Settling)
    → ServesIf advised way before between ds
    → Keeps way between after → Keeps way before after
serves_if-further way true before between after ds serves further =
    ready_further way before between after ds serves further
serves_if-further way false before between after ds serves further =
    subst (λ xs. (after ≡ xs) ⊎ ReadyStay way xs after) serves further

-- bytes that read as a block are one
pub block-is : (w h : ℕ) (bytes : List ℕ) (block : Block) → read w h bytes ≡ Ok block
    → IsTrue (is_block w h bytes)
block-is w h bytes block reads = ap (λ r. is_some (result_ok r)) reads
