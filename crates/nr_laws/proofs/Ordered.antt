-- Which of two marks of a run comes first.
use Rattle.std.proofs.Common.{◌≡◌, List, [], ◌∷◌, ◌++◌, refl, sym}
use Rattle.nr_reduce.specs.declared.mark.Mark.{Mark}
use Rattle.nr_laws.proofs.Basics.{first_is_lem, rest_is_lem}

-- of two marks in one list: the second after the first, at it, or before it
pub data Order (before : List Mark) (m : Mark) (after others : List Mark) (n : Mark) (rest : List Mark) : Type 0 where
  Behind : (between : List Mark) → others ≡ before ++ m ∷ between → after ≡ between ++ n ∷ rest → Order before m after others n rest
  Here : before ≡ others → m ≡ n → Order before m after others n rest
  Before : (between : List Mark) → before ≡ others ++ n ∷ between → rest ≡ between ++ m ∷ after → Order before m after others n rest

order_more : (x y : Mark) (before : List Mark) (m : Mark) (after others : List Mark) (n : Mark) (rest : List Mark) → x ≡ y → Order before m after others n rest → Order (x ∷ before) m after (y ∷ others) n rest
order_more x y before m after others n rest e (Behind between is then) = Behind between ((λ i. sym e i ∷ is i)) then
order_more x y before m after others n rest e (Here is same) = Here (λ i. e i ∷ is i) same
order_more x y before m after others n rest e (Before between is then) = Before between (λ i. e i ∷ is i) then

pub order : (before : List Mark) (m : Mark) (after others : List Mark) (n : Mark) (rest : List Mark) → before ++ m ∷ after ≡ others ++ n ∷ rest → Order before m after others n rest
order [] m after [] n rest e = Here refl (first_is_lem m n after rest e)
order [] m after (y ∷ others) n rest e = Behind others (λ i. sym (first_is_lem m y after (others ++ n ∷ rest) e) i ∷ others) (rest_is_lem m y after (others ++ n ∷ rest) e)
order (x ∷ before) m after [] n rest e = Before before (λ i. first_is_lem x n (before ++ m ∷ after) rest e i ∷ before) (sym (rest_is_lem x n (before ++ m ∷ after) rest e))
order (x ∷ before) m after (y ∷ others) n rest e =
    order_more x y before m after others n rest (first_is_lem x y (before ++ m ∷ after) (others ++ n ∷ rest) e) (order before m after others n rest (rest_is_lem x y (before ++ m ∷ after) (others ++ n ∷ rest) e))
