use native.Mathlib.Omega.{arith}
use lib.ListN.{length-set}
use Rattle.lister.proofs.LineLaws.{over_sets, page_line, page_1, page_2, page_3, page_4, page_5}
use Rattle.lister.proofs.lines.put_page.Goals as goal

pub bounds-out-3 : goal.bounds-out-3
bounds-out-3 c = simp length-set (omega (arith, c.requires, page_line _ _ (page_1 _ c.if-page-lt10.true)))

pub returns-then-page-lt10 : goal.returns-then-page-lt10
returns-then-page-lt10 c = rw (page_1 _ c.if-page-lt10.true) (over_sets _ _ (omega (arith, c.requires, page_line _ _ (page_1 _ c.if-page-lt10.true))))

pub bounds-out-3-then-page-lt100 : goal.bounds-out-3-then-page-lt100
bounds-out-3-then-page-lt100 c = simp length-set (omega (arith, c.requires, page_line _ _ (page_2 _ c.if-page-lt10.false c.if-page-lt100.true)))

pub bounds-out-4 : goal.bounds-out-4
bounds-out-4 c = simp length-set (omega (arith, c.requires, page_line _ _ (page_2 _ c.if-page-lt10.false c.if-page-lt100.true)))

pub returns-then-page-lt100 : goal.returns-then-page-lt100
returns-then-page-lt100 c = rw (page_2 _ c.if-page-lt10.false c.if-page-lt100.true) (over_sets _ _ (omega (arith, c.requires, page_line _ _ (page_2 _ c.if-page-lt10.false c.if-page-lt100.true))))

pub bounds-out-3-then-page-lt1000 : goal.bounds-out-3-then-page-lt1000
bounds-out-3-then-page-lt1000 c = simp length-set (omega (arith, c.requires, page_line _ _ (page_3 _ c.if-page-lt100.false c.if-page-lt1000.true)))

pub bounds-out-4-then-page-lt1000 : goal.bounds-out-4-then-page-lt1000
bounds-out-4-then-page-lt1000 c = simp length-set (omega (arith, c.requires, page_line _ _ (page_3 _ c.if-page-lt100.false c.if-page-lt1000.true)))

pub bounds-out-5 : goal.bounds-out-5
bounds-out-5 c = simp length-set (omega (arith, c.requires, page_line _ _ (page_3 _ c.if-page-lt100.false c.if-page-lt1000.true)))

pub returns-then-page-lt1000 : goal.returns-then-page-lt1000
returns-then-page-lt1000 c = rw (page_3 _ c.if-page-lt100.false c.if-page-lt1000.true) (over_sets _ _ (omega (arith, c.requires, page_line _ _ (page_3 _ c.if-page-lt100.false c.if-page-lt1000.true))))

pub bounds-out-3-then-page-lt10000 : goal.bounds-out-3-then-page-lt10000
bounds-out-3-then-page-lt10000 c = simp length-set (omega (arith, c.requires, page_line _ _ (page_4 _ c.if-page-lt1000.false c.if-page-lt10000.true)))

pub bounds-out-4-then-page-lt10000 : goal.bounds-out-4-then-page-lt10000
bounds-out-4-then-page-lt10000 c = simp length-set (omega (arith, c.requires, page_line _ _ (page_4 _ c.if-page-lt1000.false c.if-page-lt10000.true)))

pub bounds-out-5-then-page-lt10000 : goal.bounds-out-5-then-page-lt10000
bounds-out-5-then-page-lt10000 c = simp length-set (omega (arith, c.requires, page_line _ _ (page_4 _ c.if-page-lt1000.false c.if-page-lt10000.true)))

pub bounds-out-6 : goal.bounds-out-6
bounds-out-6 c = simp length-set (omega (arith, c.requires, page_line _ _ (page_4 _ c.if-page-lt1000.false c.if-page-lt10000.true)))

pub returns-then-page-lt10000 : goal.returns-then-page-lt10000
returns-then-page-lt10000 c = rw (page_4 _ c.if-page-lt1000.false c.if-page-lt10000.true) (over_sets _ _ (omega (arith, c.requires, page_line _ _ (page_4 _ c.if-page-lt1000.false c.if-page-lt10000.true))))

pub bounds-out-3-2 : goal.bounds-out-3-2
bounds-out-3-2 c = simp length-set (omega (arith, c.requires, page_line _ _ (page_5 _ c.if-page-lt10000.false)))

pub bounds-out-4-2 : goal.bounds-out-4-2
bounds-out-4-2 c = simp length-set (omega (arith, c.requires, page_line _ _ (page_5 _ c.if-page-lt10000.false)))

pub bounds-out-5-2 : goal.bounds-out-5-2
bounds-out-5-2 c = simp length-set (omega (arith, c.requires, page_line _ _ (page_5 _ c.if-page-lt10000.false)))

pub bounds-out-6-2 : goal.bounds-out-6-2
bounds-out-6-2 c = simp length-set (omega (arith, c.requires, page_line _ _ (page_5 _ c.if-page-lt10000.false)))

pub bounds-out-7 : goal.bounds-out-7
bounds-out-7 c = simp length-set (omega (arith, c.requires, page_line _ _ (page_5 _ c.if-page-lt10000.false)))

pub returns : goal.returns
returns c = rw (page_5 _ c.if-page-lt10000.false) (over_sets _ _ (omega (arith, c.requires, page_line _ _ (page_5 _ c.if-page-lt10000.false))))
