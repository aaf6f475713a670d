mod AnswerLemmas
mod LeafLemmas
mod LeftLemmas
mod OpenLemmas
mod RangeLemmas
mod SpanLemmas
mod SplitLemmas
