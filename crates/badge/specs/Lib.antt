pub mod PairCall
