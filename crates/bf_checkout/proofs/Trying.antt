use Rattle.std.proofs.Common.{◌≡◌, ℕ, List, [], ◌∷◌, ◌++◌, get_or, sym, ap, ◌∙◌, subst, All, Contains, arith}
use Rattle.std.proofs.Math.ListN.{get_or-map}
use Rattle.std.proofs.lemmas.List.Elements.{All-append, Contains-append_left, Contains-append_right, Contains-push}
use Rattle.bf_oid.specs.declared.object.Oid.{Oid}
use Rattle.bf_tester.specs.declared.answer.Answer.{Answer}
use Rattle.bf_tester.specs.declared.answer.Tested.{Tested}
use Rattle.bf_tester.specs.declared.answer.TestReply.{TestReply}
use Rattle.bf_tester.specs.declared.answer.TestReply.TheVariants.{Done, Dropped, Failed, NoMemory}
use Rattle.bf_tester.specs.Grounds.{Ground}
use Rattle.bf_tester.specs.Replies.{answer_of, answers_after}
use Rattle.bf_tester.specs.Tests.{test_of, tested_after}
use Rattle.bf_history.specs.Contents.{Content, tree_of}
use Rattle.bf_forest.specs.Files.{Files}
use Rattle.bf_forest.specs.Trees.{tree_name}
use Rattle.bf_checkout.specs.Checkouts.{checked_out, grounds_of}
use Rattle.bf_checkout.specs.Shops.{AreTestedIn}

-- the same fact, over equal lists
pub tested-same : (content : Content) (tested tested' : List Tested) (answers answers' : List Answer) → tested' ≡ tested → answers' ≡ answers
    → AreTestedIn content tested answers → AreTestedIn content tested' answers'
tested-same content tested tested' answers answers' same same_answers are = rw (same, same_answers) are

one : {X : Type 0} (P : X → Type 0) (x : X) → P x → All P (x ∷ [])
one P x holds k d within = let e : k ≡ 0 = omega arith in subst (λ n. P (get_or (x ∷ []) n d)) (sym e) holds

-- the answers and the tests of two testers
pub tested-append : (content : Content) (tested tested' : List Tested) (answers answers' : List Answer) → AreTestedIn content tested answers
    → AreTestedIn content tested' answers' → AreTestedIn content (tested ++ tested') (answers ++ answers')
tested-append content tested tested' answers answers' first second = record {
  each = All-append (λ (answer : Answer). Contains (tested ++ tested') (test_of answer.place (tree_of content answer.place))) answers answers'
      (λ k d within. Contains-append_left tested tested' _ (first.each k d within))
      (λ k d within. Contains-append_right tested tested' _ (second.each k d within));
}

-- one more test, of a place with the tree that the content has there
tested-push : (content : Content) (tested : List Tested) (answers : List Answer) (answer : Answer) → AreTestedIn content tested answers
    → AreTestedIn content (tested ++ test_of answer.place (tree_of content answer.place) ∷ []) (answers ++ answer ∷ [])
tested-push content tested answers answer are =
    tested-append content tested (test_of answer.place (tree_of content answer.place) ∷ []) answers (answer ∷ []) are (record {
      each = one (λ (other : Answer). Contains (test_of answer.place (tree_of content answer.place) ∷ []) (test_of other.place (tree_of content other.place)))
          answer (Contains-push [] _);
    })

-- so after any reply
pub tested-after : (content : Content) (tested tested' : List Tested) (answers answers' : List Answer) (reply : TestReply) (place : ℕ) (name : Oid)
    → tested' ≡ tested_after reply tested place (tree_of content place) → answers' ≡ answers_after reply answers place name
    → AreTestedIn content tested answers → AreTestedIn content tested' answers'
tested-after content tested tested' answers answers' (Done outcome) place name noted answered are =
    tested-same content _ tested' _ answers' noted answered (tested-push content tested answers (answer_of place name outcome) are)
tested-after content tested tested' answers answers' Dropped place name noted answered are =
    tested-same content _ tested' _ answers' noted answered are
tested-after content tested tested' answers answers' Failed place name noted answered are =
    tested-same content _ tested' _ answers' noted answered are
tested-after content tested tested' answers answers' NoMemory place name noted answered are =
    tested-same content _ tested' _ answers' noted answered are

-- ---- contents with the same grounds

abbrev ground_of : Content → Files → Ground
ground_of content files = record { tree = record { 0 = tree_name files }; files = checked_out content.blobs files }

-- the tree of a place stands in the grounds
tree_of-grounds : (content : Content) (place : ℕ) → tree_of content place ≡ (get_or (grounds_of content) place (ground_of content [])).tree
tree_of-grounds content place = sym (ap (λ (g : Ground). g.tree) (get_or-map (ground_of content) content.history.files place []))

-- contents with the same grounds have the same trees
same_tree : (content other : Content) → grounds_of content ≡ grounds_of other → (place : ℕ) → tree_of other place ≡ tree_of content place
same_tree content other same place =
    tree_of-grounds other place
    ∙ ap (λ (gs : List Ground). (get_or gs place (ground_of other [])).tree) (sym same)
    ∙ sym (tree_of-grounds content place)

-- so what was tested in the one was tested in the other
pub tested-grounds : (content other : Content) (tested : List Tested) (answers : List Answer) → grounds_of content ≡ grounds_of other
    → AreTestedIn other tested answers → AreTestedIn content tested answers
tested-grounds content other tested answers same are = record {
  each = λ k d within. subst (λ tree. Contains tested (test_of (get_or answers k d).place tree)) (same_tree content other same (get_or answers k d).place) (are.each k d within);
}
