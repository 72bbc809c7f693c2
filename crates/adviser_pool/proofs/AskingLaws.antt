-- Laws of asking.
use Rattle.std.proofs.Common.{◌≡◌, ℕ, Bool, true, false, ◌&&◌, cond, List, [], ◌∷◌, ◌++◌, length, map, Option, Some, None, is_some, Result, Ok, Err, append_assoc, refl, sym, ◌∙◌, ap, arith, suc}
use Rattle.std.specs.List.{filter, cons_option, AllZip, AllByRecursion, Contains}
use Rattle.std.specs.Result.{result_ok}
use Rattle.std.specs.Option.{option_to_list}
use Rattle.astc_model.specs.declared.block.BlockFault.{BlockFault}
use Rattle.astc_model.specs.Reading.{read}
use Rattle.astc_model.specs.Blocks.{Legal}
use Rattle.block_reader.proofs.ReadingLaws.{read-legal}
use Rattle.std.proofs.lemmas.Bool.{cond-true, cond-false}
use Rattle.std.proofs.lemmas.List.Elements.{filter_map-append, Contains-append_right}
use Rattle.std.proofs.lemmas.List.{map-append, length-map}
use Rattle.astc_model.specs.declared.block.Block.{Block}
use Rattle.adviser_pool.specs.declared.ask.Ask.{Ask}
use Rattle.adviser_pool.specs.Advisers.{AdviserState, after_ask, Follows, Echoes}
use Rattle.adviser_pool.specs.Asking.{kept, IsSubsequence, block_of, is_block, blocks_of, is_ready, IsAsked}

-- one after another

pub AllZip-append : {A B : Type 0} (R : A → B → Type 0) (xs : List A) (ys : List B) (us : List A)
    (vs : List B) → AllZip R xs ys → AllZip R us vs → AllZip R (xs ++ us) (ys ++ vs)
AllZip-append R [] [] us vs p q = q
AllZip-append R [] (y ∷ ys) us vs p q = elim p [ ]
AllZip-append R (x ∷ xs) [] us vs p q = elim p [ ]
AllZip-append R (x ∷ xs) (y ∷ ys) us vs p q = (p.0, AllZip-append R xs ys us vs p.1 q)

-- the truths of paired lists, of the same length
pub kept-append : {A B : Type 0} (R : A → B → Type 0) (test : B → Bool) (xs : List A) (ys : List B)
    (us : List A) (vs : List B) → AllZip R xs ys
    → kept (map test (ys ++ vs)) (xs ++ us) ≡ kept (map test ys) xs ++ kept (map test vs) us
kept-append R test [] [] us vs p = refl
kept-append R test [] (y ∷ ys) us vs p = elim p [ ]
kept-append R test (x ∷ xs) [] us vs p = elim p [ ]
kept-append R test (x ∷ xs) (y ∷ ys) us vs p =
    let rest = kept-append R test xs ys us vs p.1 in
    elim (test y) as (λ t. cond t (x ∷ kept (map test (ys ++ vs)) (xs ++ us))
    (kept (map test (ys ++ vs)) (xs ++ us)) ≡ cond t (x ∷ kept (map test ys) xs)
    (kept (map test ys) xs) ++ kept (map test vs) us) [
      | true ↦ ap (λ zs. x ∷ zs) rest
      | false ↦ rest
    ]

pub asked_append : (w h : ℕ) (ask : Ask) (o p : List (Option (List ℕ))) (b c : List AdviserState)
    (a d : List AdviserState) (x y : List Block)
    → IsAsked w h ask o b a x → IsAsked w h ask p c d y → IsAsked w h ask (o ++ p) (b ++ c) (a ++ d)
    (x ++ y)
asked_append w h ask o p b c a d x y first second = record {
  proposals = first.proposals ++ second.proposals;
  offered = AllZip-append Follows o first.proposals p second.proposals first.offered second.offered;
  echoed = AllZip-append Echoes b first.proposals c second.proposals first.echoed second.echoed;
  blocks_are = rw (first.blocks_are, second.blocks_are)
      (sym (filter_map-append (block_of w h) first.proposals second.proposals));
  left = rw (
    first.left,
    second.left,
    kept-append Echoes
        (is_block w h) b first.proposals c second.proposals first.echoed,
  )
      (sym (map-append (after_ask ask) (kept (map (is_block w h) first.proposals) b)
      (kept (map (is_block w h) second.proposals) c)));
}

pub asked_none : (w h : ℕ) (ask : Ask) → IsAsked w h ask [] [] [] []
asked_none w h ask = record {
  proposals = [];
  offered = tt;
  echoed = tt;
  blocks_are = refl;
  left = refl;
}

-- an adviser whose proposal is a block
pub asked_left : (w h : ℕ) (ask : Ask) (offer : Option (List ℕ)) (before : AdviserState)
    (proposal : List ℕ) (block : Block) → Follows offer proposal → Echoes before proposal
    → block_of w h proposal ≡ Some block → IsAsked w h ask (offer ∷ []) (before ∷ [])
    (after_ask ask before ∷ []) (block ∷ [])
asked_left w h ask offer before proposal block follows echoes is = record {
  proposals = proposal ∷ [];
  offered = (follows, tt);
  echoed = (echoes, tt);
  blocks_are = rw is refl;
  left = rw is refl;
}

-- an adviser whose proposal is none
pub asked_dropped : (w h : ℕ) (ask : Ask) (offer : Option (List ℕ)) (before : AdviserState)
    (proposal : List ℕ) → Follows offer proposal → Echoes before proposal
    → block_of w h proposal ≡ None → IsAsked w h ask (offer ∷ []) (before ∷ []) [] []
asked_dropped w h ask offer before proposal follows echoes is = record {
  proposals = proposal ∷ [];
  offered = (follows, tt);
  echoed = (echoes, tt);
  blocks_are = rw is refl;
  left = rw is refl;
}

-- all offers are known

proposals-told : (bytes proposals : List (List ℕ))
    → AllZip Follows (map (λ b. Some b) bytes) proposals → proposals ≡ bytes
proposals-told [] [] p = refl
proposals-told [] (y ∷ ys) p = elim p [ ]
proposals-told (x ∷ xs) [] p = elim p [ ]
proposals-told (x ∷ xs) (y ∷ ys) p = let rest = proposals-told xs ys p.1 in let here : y ≡ x =
    p.0 in (cc)

pub asked-told : (w h : ℕ) (ask : Ask) (offers : List (Option (List ℕ)))
    (before after : List AdviserState) (blocks : List Block)
    → IsAsked w h ask offers before after blocks
    → (bytes : List (List ℕ)) → offers ≡ map (λ b. Some b) bytes
    → (blocks ≡ blocks_of w h bytes)
    × (after ≡ map (after_ask ask) (kept (map (is_block w h) bytes) before))
asked-told w h ask offers before after blocks asked bytes told =
    let same : asked.proposals ≡ bytes = proposals-told bytes asked.proposals
    (rw told at asked.offered) in
    (rw same at asked.blocks_are, rw same at asked.left)

-- in every case

pub length-blocks : (w h : ℕ) (before : List AdviserState) (proposals : List (List ℕ))
    → AllZip Echoes before proposals
    → length (blocks_of w h proposals) ≡ length (kept (map (is_block w h) proposals) before)
length-blocks w h [] [] p = refl
length-blocks w h [] (y ∷ ys) p = elim p [ ]
length-blocks w h (x ∷ xs) [] p = elim p [ ]
length-blocks w h (x ∷ xs) (y ∷ ys) p =
    let rest = length-blocks w h xs ys p.1 in
    elim (block_of w h y) as (λ b. length (cons_option b (blocks_of w h ys))
    ≡ length (cond (is_some b) (x ∷ kept (map (is_block w h) ys) xs)
    (kept (map (is_block w h) ys) xs))) [
      | Some b ↦ ap suc rest
      | None ↦ rest
    ]

-- an adviser that echoes is left exactly if the last bytes reported to it are a block
left-step : (ask : Ask) (x : AdviserState) (left ready : List AdviserState) (e proposed last : Bool)
    → x.echoes ≡ e → (e ≡ true → proposed ≡ last)
    → filter (λ a. a.echoes) (map (after_ask ask) left) ≡ map (after_ask ask) ready
    → filter (λ a. a.echoes) (map (after_ask ask) (cond proposed (x ∷ left) left))
    ≡ map (after_ask ask) (cond (e && last) (x ∷ ready) ready)
left-step ask x left ready true true true is same rest = cond-true x.echoes _ _ is
    ∙ ap (λ zs. after_ask ask x ∷ zs) rest
left-step ask x left ready true true false is same rest = let no : true ≡ false = same refl in (cc)
left-step ask x left ready true false true is same rest = let no : false ≡ true = same refl in (cc)
left-step ask x left ready true false false is same rest = rest
left-step ask x left ready false true last is same rest = cond-false x.echoes _ _ is ∙ rest
left-step ask x left ready false false last is same rest = rest

left-echoing : (w h : ℕ) (ask : Ask) (before : List AdviserState) (proposals : List (List ℕ))
    → AllZip Echoes before proposals
    → filter (λ a. a.echoes) (map (after_ask ask) (kept (map (is_block w h) proposals) before))
    ≡ map (after_ask ask) (filter (is_ready w h) before)
left-echoing w h ask [] [] p = refl
left-echoing w h ask [] (y ∷ ys) p = elim p [ ]
left-echoing w h ask (x ∷ xs) [] p = elim p [ ]
left-echoing w h ask (x ∷ xs) (y ∷ ys) p =
    left-step ask x (kept (map (is_block w h) ys) xs) (filter (is_ready w h) xs) x.echoes
    (is_block w h y) (is_block w h x.last) refl
    (λ echoes. ap (is_block w h) (p.0 echoes)) (left-echoing w h ask xs ys p.1)

pub asked-echoing : (w h : ℕ) (ask : Ask) (offers : List (Option (List ℕ)))
    (before after : List AdviserState) (blocks : List Block)
    → IsAsked w h ask offers before after blocks
    → filter (λ a. a.echoes) after ≡ map (after_ask ask) (filter (is_ready w h) before)
asked-echoing w h ask offers before after blocks asked =
    rw asked.left (left-echoing w h ask before asked.proposals asked.echoed)

-- and its block is handed out
all-later : (xs ys : List Block) (x : Block) → AllByRecursion (Contains xs) ys
    → AllByRecursion (Contains (x ∷ xs)) ys
all-later xs [] x p = tt
all-later xs (y ∷ ys) x p = (Contains-append_right (x ∷ []) xs y p.0, all-later xs ys x p.1)

all-added : (xs ys : List Block) (o : Option Block) → AllByRecursion (Contains xs) ys
    → AllByRecursion (Contains (cons_option o xs)) ys
all-added xs ys None p = p
all-added xs ys (Some x) p = all-later xs ys x p

among-step : (w h : ℕ) (x : AdviserState) (proposal : List ℕ) (blocks : List Block)
    (ready : List AdviserState) (e : Bool) (last : Option Block) → x.echoes ≡ e
    → block_of w h x.last ≡ last → (e ≡ true → proposal ≡ x.last)
    → AllByRecursion (Contains blocks) (blocks_of w h (map (λ a. a.last) ready))
    → AllByRecursion (Contains (cons_option (block_of w h proposal) blocks))
    (blocks_of w h (map (λ a. a.last) (cond (e && is_some last) (x ∷ ready) ready)))
among-step w h x proposal blocks ready false last is block same rest =
    all-added blocks (blocks_of w h (map (λ a. a.last) ready)) (block_of w h proposal) rest
among-step w h x proposal blocks ready true None is block same rest =
    all-added blocks (blocks_of w h (map (λ a. a.last) ready)) (block_of w h proposal) rest
among-step w h x proposal blocks ready true (Some b) is block same rest =
    let says : block_of w h proposal ≡ Some b = ap (block_of w h) (same refl) ∙ block in
    rw (says, block) (
      (0, omega arith, refl),
      all-later blocks
          (blocks_of w h (map (λ a. a.last) ready)) b rest,
    )

among : (w h : ℕ) (before : List AdviserState) (proposals : List (List ℕ))
    → AllZip Echoes before proposals
    → AllByRecursion (Contains (blocks_of w h proposals))
    (blocks_of w h (map (λ a. a.last) (filter (is_ready w h) before)))
among w h [] [] p = tt
among w h [] (y ∷ ys) p = elim p [ ]
among w h (x ∷ xs) [] p = elim p [ ]
among w h (x ∷ xs) (y ∷ ys) p =
    among-step w h x y (blocks_of w h ys) (filter (is_ready w h) xs) x.echoes
    (block_of w h x.last) refl refl p.0 (among w h xs ys p.1)

pub asked-among : (w h : ℕ) (ask : Ask) (offers : List (Option (List ℕ)))
    (before after : List AdviserState) (blocks : List Block)
    → IsAsked w h ask offers before after blocks
    → AllByRecursion (Contains blocks)
    (blocks_of w h (map (λ a. a.last) (filter (is_ready w h) before)))
asked-among w h ask offers before after blocks asked =
    rw asked.blocks_are (among w h before asked.proposals asked.echoed)

pub asked-count : (w h : ℕ) (ask : Ask) (offers : List (Option (List ℕ)))
    (before after : List AdviserState) (blocks : List Block)
    → IsAsked w h ask offers before after blocks
    → length blocks ≡ length after
asked-count w h ask offers before after blocks asked =
    rw (asked.blocks_are, asked.left)
    (length-blocks w h before asked.proposals asked.echoed
    ∙ sym (length-map (kept (map (is_block w h) asked.proposals) before) (after_ask ask)))

-- the adviser of one place
module _ {A : Type 0} (state : A → AdviserState) (offer : A → Option (List ℕ)) (w h : ℕ)
    (ask : Ask) where
  pub place_empty : (place : Option A) → place ≡ None
      → IsAsked w h ask (map offer (option_to_list place)) (map state (option_to_list place)) [] []
  place_empty place empty = rw empty (asked_none w h ask)

  pub place_left : (place : Option A) (adviser : A) (after : AdviserState) (proposal : List ℕ)
      (block : Block) → place ≡ Some adviser → Follows (offer adviser) proposal
      → Echoes (state adviser) proposal
      → read w h proposal ≡ Ok block → after ≡ after_ask ask (state adviser)
      → IsAsked w h ask (map offer (option_to_list place)) (map state (option_to_list place))
      (after ∷ []) (block ∷ [])
  place_left place adviser after proposal block filled follows echoes reads asked =
      rw (filled, asked) (asked_left w h ask (offer adviser) (state adviser) proposal block follows
      echoes (ap result_ok reads))

  pub place_dropped : (place : Option A) (adviser : A) (proposal : List ℕ) (fault : BlockFault)
      → place ≡ Some adviser → Follows (offer adviser) proposal → Echoes (state adviser) proposal
      → read w h proposal ≡ Err fault
      → IsAsked w h ask (map offer (option_to_list place)) (map state (option_to_list place)) [] []
  place_dropped place adviser proposal fault filled follows echoes reads =
      rw filled (asked_dropped w h ask (offer adviser) (state adviser) proposal follows echoes
      (ap result_ok reads))

  -- the advisers of four places
  pub places_asked : (first second third fourth first' second' third' fourth' : Option A)
      (a b c d : List Block)
      → IsAsked w h ask (map offer (option_to_list first)) (map state (option_to_list first))
      (map state (option_to_list first')) a
      → IsAsked w h ask (map offer (option_to_list second)) (map state (option_to_list second))
      (map state (option_to_list second')) b
      → IsAsked w h ask (map offer (option_to_list third)) (map state (option_to_list third))
      (map state (option_to_list third')) c
      → IsAsked w h ask (map offer (option_to_list fourth)) (map state (option_to_list fourth))
      (map state (option_to_list fourth')) d
      → IsAsked w h ask (map offer
      (option_to_list first ++ (option_to_list second
      ++ (option_to_list third ++ option_to_list fourth))))
      (map state (option_to_list first
      ++ (option_to_list second ++ (option_to_list third ++ option_to_list fourth))))
      (map state (option_to_list first'
      ++ (option_to_list second' ++ (option_to_list third' ++ option_to_list fourth'))))
      (a ++ (b ++ (c ++ d)))
  places_asked first second third fourth first' second' third' fourth' a b c d p q r s =
      simp map-append
      (asked_append w h ask _ _ _ _ _ _ a (b ++ (c ++ d)) p
      (asked_append w h ask _ _ _ _ _ _ b (c ++ d) q
      (asked_append w h ask _ _ _ _ _ _ c d r s)))

-- all blocks are legal
one_legal : (w h : ℕ) (result : Result Block BlockFault)
    → ((block : Block) → result ≡ Ok block → Legal w h block) → (blocks : List Block)
    → AllByRecursion (Legal w h) blocks
    → AllByRecursion (Legal w h) (cons_option (result_ok result) blocks)
one_legal w h (Ok block) legal blocks rest = (legal block refl, rest)
one_legal w h (Err fault) legal blocks rest = rest

pub all_legal : (w h : ℕ) (proposals : List (List ℕ))
    → AllByRecursion (Legal w h) (blocks_of w h proposals)
all_legal w h [] = tt
all_legal w h (bytes ∷ proposals) = one_legal w h (read w h bytes) (read-legal w h bytes)
    (blocks_of w h proposals) (all_legal w h proposals)

pub asked-legal : (w h : ℕ) (ask : Ask) (offers : List (Option (List ℕ)))
    (before after : List AdviserState) (blocks : List Block)
    → IsAsked w h ask offers before after blocks
    → AllByRecursion (Legal w h) blocks
asked-legal w h ask offers before after blocks asked =
    rw asked.blocks_are (all_legal w h asked.proposals)

pub asked-subsequence : (w h : ℕ) (ask : Ask) (offers : List (Option (List ℕ)))
    (before after : List AdviserState) (blocks : List Block)
    → IsAsked w h ask offers before after blocks
    → (stayed : List AdviserState) × IsSubsequence stayed before
    × (after ≡ map (after_ask ask) stayed)
asked-subsequence w h ask offers before after blocks asked = (
  kept (map (is_block w h) asked.proposals) before,
  (map (is_block w h) asked.proposals, refl),
  asked.left,
)

-- four pieces, one after another
pub four_pieces : {A : Type 0} (e f g h i a b c d : List A) → e ≡ [] → f ≡ e ++ a → g ≡ f ++ b → h
    ≡ g ++ c → i ≡ h ++ d → i ≡ a ++ (b ++ (c ++ d))
four_pieces e f g h i a b c d none one two three four =
    four ∙ ap (λ xs. xs ++ d) three ∙ ap (λ xs. (xs ++ c) ++ d) two
    ∙ ap (λ xs. ((xs ++ b) ++ c) ++ d) one ∙ ap (λ xs. (((xs ++ a) ++ b) ++ c) ++ d) none
    ∙ append_assoc (a ++ b) c d ∙ append_assoc a b (c ++ d)
