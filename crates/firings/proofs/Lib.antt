mod Puts
mod WholeOrders
